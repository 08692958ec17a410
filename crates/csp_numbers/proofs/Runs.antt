-- The parts of a process are spelled where the runs of its holes are.
use Rattle.std.proofs.Common.{◌≡◌, ℕ, ◌+◌, ◌-◌, ◌≤◌, ◌<◌, zero, suc, List, [], ◌∷◌, ◌++◌, length, take, get_or, refl, sym, ap, ap₂, ◌∙◌, ◌⊎◌, inl, inr, arith, append_assoc}
use Rattle.std.proofs.lemmas.List.{append-nil, get_or-append-add, get_or_append_left, length-append}
use Rattle.std.specs.List.{AllByRecursion}
use Rattle.std.proofs.lemmas.Bool.{cases_lt}
use Rattle.std.proofs.Math.Seq.{take-append-add}
use Rattle.theory_syntax.specs.Process.{Process, Stop, Interleaving, GeneralisedParallel, AlphabetisedParallel, Hiding, Renaming}
use Rattle.theory_spelling.specs.Spelling.{spelling}
use Rattle.theory_shapes.specs.Shape.{Composition, Interleaved, Generalised, Alphabetised, compose, Frame, Hidden, Renamed, enframe, Shape, Hole, Composed, Framed, holes, part_at, fill_from}
use Rattle.theory_shapes.specs.Parts.{IsPart, parts_of, shape_of}
use Rattle.theory_shapes.specs.Pieces.{composition_tag, frame_tag, between_sides, behind_body, first_piece, later_pieces, runs_with, part_run, run_start}
use Rattle.theory_shapes.proofs.Apart.{as_many, by_shape, composed_parts, composed_shape, filled_again, framed_parts, framed_shape, only_parts}
use Rattle.theory_shapes.proofs.Spelled.{composed_spelling, framed_spelling}
use Rattle.csp_rows.specs.declared.places.Place.{Place}
use Rattle.csp_rows.specs.Places.{AreRunsOf, place_at}
use Rattle.csp_numbers.specs.Placed.{places_in, right_start}

-- ---- one layer

pub composed_places : (start : ℕ) (c : Composition) (p q : Process) → places_in start (compose c p q) ≡ places_in (suc start) p ++ places_in (right_start start c p) q
composed_places start Interleaved p q = refl
composed_places start (Generalised a) p q = refl
composed_places start (Alphabetised a b) p q = refl

pub framed_places : (start : ℕ) (f : Frame) (p : Process) → places_in start (enframe f p) ≡ places_in (suc start) p
framed_places start (Hidden a) p = refl
framed_places start (Renamed rs) p = refl

abbrev alone : ℕ → Process → Place
alone start p = record { start = start; end = start + length (spelling p) }

-- by the head: one alone, two side by side, one in a frame
pub part_place : (p : Process) (start : ℕ) → IsPart p → places_in start p ≡ alone start p ∷ []
part_place (Interleaving p q) start is = absurd (cc is)
part_place (GeneralisedParallel p a q) start is = absurd (cc is)
part_place (AlphabetisedParallel p a b q) start is = absurd (cc is)
part_place (Hiding p a) start is = absurd (cc is)
part_place (Renaming p rs) start is = absurd (cc is)
part_place p start is = refl

composed_length : (c : Composition) (p q : Process) → length (spelling (compose c p q)) ≡ suc (length (spelling p) + (length (between_sides c) + length (spelling q)))
composed_length c p q =
    ap (λ (bytes : List ℕ). length bytes) (composed_spelling c p q)
    ∙ ap suc (length-append (spelling p) (between_sides c ++ spelling q) ∙ ap (λ (k : ℕ). length (spelling p) + k) (length-append (between_sides c) (spelling q)))

framed_length : (f : Frame) (p : Process) → length (spelling (enframe f p)) ≡ suc (length (spelling p) + length (behind_body f))
framed_length f p = ap (λ (bytes : List ℕ). length bytes) (framed_spelling f p) ∙ ap suc (length-append (spelling p) (behind_body f))

-- ---- as many as holes, each as long as its part

pub place_count : (p : Process) (start : ℕ) → length (places_in start p) ≡ holes (shape_of p)
place_count =
    by_shape (λ p. (start : ℕ) → length (places_in start p) ≡ holes (shape_of p)) (λ p part only start. ap (λ (ps : List Place). length ps) (part_place p start part) ∙ sym (ap holes part))
    (λ c p q first second start.
    ap (λ (ps : List Place). length ps) (composed_places start c p q) ∙ length-append (places_in (suc start) p) (places_in (right_start start c p) q)
    ∙ ap₂ ◌+◌ (first (suc start)) (second (right_start start c p)) ∙ sym (ap holes (composed_shape c p q)))
    (λ f p only start. ap (λ (ps : List Place). length ps) (framed_places start f p) ∙ only (suc start) ∙ sym (ap holes (framed_shape f p)))

abbrev none : Place
none = record { start = 0; end = 0 }

-- of two lists, one behind the other
at_left : {X : Type 0} (xs ys : List X) (d : X) (i n : ℕ) → length xs ≡ n → i < n → get_or (xs ++ ys) i d ≡ get_or xs i d
at_left xs ys d i n long within = get_or_append_left xs ys d i (omega (arith, long, within))

at_right : {X : Type 0} (xs ys : List X) (d : X) (i j n : ℕ) → length xs ≡ n → i ≡ n + j → get_or (xs ++ ys) i d ≡ get_or ys j d
at_right xs ys d i j n long is = ap (λ (k : ℕ). get_or (xs ++ ys) k d) (let e : i ≡ length xs + j = omega (arith, long, is) in e) ∙ get_or-append-add xs ys j d

abbrev HasItsLength : Process → Type 0
HasItsLength p = (start i : ℕ) → i < holes (shape_of p) → (place_at (places_in start p) i).end ≡ (place_at (places_in start p) i).start + length (part_run (parts_of p) i)

-- by the side on which a hole is
side_cases : (i n m : ℕ) → i < n + m → (i < n) ⊎ ((j : ℕ) × (i ≡ n + j) × (j < m))
side_cases i n m within = elim (cases_lt i n) [ inl lo ↦ inl lo | inr hi ↦ inr (i - n, omega (arith, hi), omega (arith, hi, within)) ]

same_length : (a b : Place) (x y : List ℕ) → a ≡ b → x ≡ y → b.end ≡ b.start + length y → a.end ≡ a.start + length x
same_length a b x y same alike is = let one = ap (λ (p : Place). p.end) same in let two = ap (λ (p : Place). p.start) same in let three = ap (λ (bytes : List ℕ). length bytes) alike in omega (arith, one, two, three, is)

pub each_length : (p : Process) → HasItsLength p
each_length =
    by_shape HasItsLength
    (λ p part only start i within. alone_length p part only start i (let e = ap holes part in omega (arith, e, within)))
    (λ c p q first second start i within. elim (side_cases i (holes (shape_of p)) (holes (shape_of q)) (let e = ap holes (composed_shape c p q) in omega (arith, e, within))) [
      | inl lo ↦ same_length _ _ _ _
          (ap (λ (ps : List Place). place_at ps i) (composed_places start c p q) ∙ at_left (places_in (suc start) p) (places_in (right_start start c p) q) none i (holes (shape_of p)) (place_count p (suc start)) lo)
          (ap (λ (ps : List Process). part_run ps i) (composed_parts c p q) ∙ ap spelling (at_left (parts_of p) (parts_of q) Stop i (holes (shape_of p)) (as_many p) lo))
          (first (suc start) i lo)
      | inr (j, is, lt) ↦ same_length _ _ _ _
          (ap (λ (ps : List Place). place_at ps i) (composed_places start c p q) ∙ at_right (places_in (suc start) p) (places_in (right_start start c p) q) none i j (holes (shape_of p)) (place_count p (suc start)) is)
          (ap (λ (ps : List Process). part_run ps i) (composed_parts c p q) ∙ ap spelling (at_right (parts_of p) (parts_of q) Stop i j (holes (shape_of p)) (as_many p) is))
          (second (right_start start c p) j lt)
    ])
    (λ f p only start i within. same_length _ _ _ _ (ap (λ (ps : List Place). place_at ps i) (framed_places start f p)) (ap (λ (ps : List Process). part_run ps i) (framed_parts f p))
    (only (suc start) i (let e = ap holes (framed_shape f p) in omega (arith, e, within))))
  where
    alone_length : (p : Process) → IsPart p → parts_of p ≡ p ∷ [] → (start i : ℕ) → i < 1 → (place_at (places_in start p) i).end ≡ (place_at (places_in start p) i).start + length (part_run (parts_of p) i)
    alone_length p part only start zero within = same_length _ _ _ _ (ap (λ (ps : List Place). place_at ps 0) (part_place p start part)) (ap (λ (ps : List Process). part_run ps 0) only) refl
    alone_length p part only start (suc i) within = absurd (omega (arith, within))

-- ---- where they begin

later_count : (s : Shape) (rest : List ℕ) → length (later_pieces s rest) ≡ holes s
later_count Hole rest = refl
later_count (Composed c l r) rest =
    length-append (later_pieces l (between_sides c ++ first_piece r)) (later_pieces r rest) ∙ ap₂ ◌+◌ (later_count l (between_sides c ++ first_piece r)) (later_count r rest)
later_count (Framed f s) rest = later_count s (behind_body f ++ rest)

-- the spelling of a shape with its parts, and what comes behind it
spelled_front : (n : ℕ) (s : Shape) (parts : List Process) (rest : List ℕ) (more : List (List ℕ)) →
    first_piece s ++ runs_with n (later_pieces s rest ++ more) (part_run parts) ≡ spelling (fill_from n s parts) ++ (rest ++ runs_with (n + holes s) more (part_run parts))
spelled_front n Hole parts rest more = ap (λ (k : ℕ). part_run parts n ++ (rest ++ runs_with k more (part_run parts))) (omega arith)
spelled_front n (Composed c l r) parts rest more =
    let run = part_run parts in
    let m = n + holes l in
    let p = fill_from n l parts in
    let q = fill_from m r parts in
    let between = between_sides c in
    let end = rest ++ runs_with (n + (holes l + holes r)) more run in
    let left = spelled_front n l parts (between ++ first_piece r) (later_pieces r rest ++ more) in
    let right : first_piece r ++ runs_with m (later_pieces r rest ++ more) run ≡ spelling q ++ end =
    spelled_front m r parts rest more ∙ ap (λ (k : ℕ). spelling q ++ (rest ++ runs_with k more run)) (omega arith)
    in
    ap (λ (bytes : List ℕ). composition_tag c ∷ bytes)
    (ap (λ (ps : List (List ℕ)). first_piece l ++ runs_with n ps run) (append_assoc (later_pieces l (between ++ first_piece r)) (later_pieces r rest) more) ∙ left
    ∙ ap (λ (bytes : List ℕ). spelling p ++ bytes) (append_assoc between (first_piece r) (runs_with m (later_pieces r rest ++ more) run) ∙ ap (λ (bytes : List ℕ). between ++ bytes) right ∙ sym (append_assoc between (spelling q) end))
    ∙ sym (append_assoc (spelling p) (between ++ spelling q) end))
    ∙ ap (λ (bytes : List ℕ). bytes ++ end) (sym (composed_spelling c p q))
spelled_front n (Framed f s) parts rest more =
    let run = part_run parts in
    let p = fill_from n s parts in
    let end = rest ++ runs_with (n + holes s) more run in
    ap (λ (bytes : List ℕ). frame_tag f ∷ bytes)
    (spelled_front n s parts (behind_body f ++ rest) more
    ∙ ap (λ (bytes : List ℕ). spelling p ++ bytes) (append_assoc (behind_body f) rest (runs_with (n + holes s) more run))
    ∙ sym (append_assoc (spelling p) (behind_body f) end))
    ∙ ap (λ (bytes : List ℕ). bytes ++ end) (sym (framed_spelling f p))

-- parts alone in the holes leave the shape as it is
filled_shape : (n : ℕ) (s : Shape) (parts : List Process) → ((j : ℕ) → IsPart (part_at parts j)) → shape_of (fill_from n s parts) ≡ s
filled_shape n Hole parts are = are n
filled_shape n (Composed c l r) parts are = composed_shape c (fill_from n l parts) (fill_from (n + holes l) r parts) ∙ ap₂ (Composed c) (filled_shape n l parts are) (filled_shape (n + holes l) r parts are)
filled_shape n (Framed f s) parts are = framed_shape f (fill_from n s parts) ∙ ap (Framed f) (filled_shape n s parts are)

filled_count : (n : ℕ) (s : Shape) (parts : List Process) (start : ℕ) → ((j : ℕ) → IsPart (part_at parts j)) → length (places_in start (fill_from n s parts)) ≡ holes s
filled_count n s parts start are = place_count (fill_from n s parts) start ∙ ap holes (filled_shape n s parts are)

-- what is spelled before a hole, where these pieces come behind
abbrev ahead : ℕ → Shape → List Process → List ℕ → List (List ℕ) → ℕ → List ℕ
ahead n s parts rest more i = first_piece s ++ runs_with n (take i (later_pieces s rest ++ more)) (part_run parts)

-- a hole of the left side, and one of the right side
at_first : (c : Composition) (l r : Shape) (place n i : ℕ) (parts : List Process) (rest : List ℕ) (more : List (List ℕ)) → length (places_in (suc place) (fill_from n l parts)) ≡ holes l → i < holes l
    → place_at (places_in place (compose c (fill_from n l parts) (fill_from (n + holes l) r parts))) i ≡ place_at (places_in (suc place) (fill_from n l parts) ++ places_in (right_start place c (fill_from n l parts)) (fill_from (n + holes l) r parts)) i
    → (place_at (places_in (suc place) (fill_from n l parts)) i).start ≡ suc place + length (ahead n l parts (between_sides c ++ first_piece r) (later_pieces r rest ++ more) i)
    → (place_at (places_in place (compose c (fill_from n l parts) (fill_from (n + holes l) r parts))) i).start ≡ place + length (ahead n (Composed c l r) parts rest more i)
at_first c l r place n i parts rest more long lo whole first =
    let x : List ℕ = between_sides c ++ first_piece r in
    let zs : List Place = places_in (suc place) (fill_from n l parts) in
    let ws : List Place = places_in (right_start place c (fill_from n l parts)) (fill_from (n + holes l) r parts) in
    let side = ap (λ (p : Place). p.start) (whole ∙ at_left zs ws none i (holes l) long lo) in
    let same : length (first_piece l ++ runs_with n (take i ((later_pieces l x ++ later_pieces r rest) ++ more)) (part_run parts)) ≡ length (ahead n l parts x (later_pieces r rest ++ more) i) =
    ap (λ (ps : List (List ℕ)). length (first_piece l ++ runs_with n (take i ps) (part_run parts))) (append_assoc (later_pieces l x) (later_pieces r rest) more)
    in
    let tagged : length (ahead n (Composed c l r) parts rest more i) ≡ suc (length (first_piece l ++ runs_with n (take i ((later_pieces l x ++ later_pieces r rest) ++ more)) (part_run parts))) = refl in
    omega (arith, first, side, same, tagged)

at_second : (c : Composition) (l r : Shape) (place n i j : ℕ) (parts : List Process) (rest : List ℕ) (more : List (List ℕ)) → length (places_in (suc place) (fill_from n l parts)) ≡ holes l → i ≡ holes l + j
    → place_at (places_in place (compose c (fill_from n l parts) (fill_from (n + holes l) r parts))) i ≡ place_at (places_in (suc place) (fill_from n l parts) ++ places_in (right_start place c (fill_from n l parts)) (fill_from (n + holes l) r parts)) i
    → (place_at (places_in (right_start place c (fill_from n l parts)) (fill_from (n + holes l) r parts)) j).start ≡ right_start place c (fill_from n l parts) + length (ahead (n + holes l) r parts rest more j)
    → (place_at (places_in place (compose c (fill_from n l parts) (fill_from (n + holes l) r parts))) i).start ≡ place + length (ahead n (Composed c l r) parts rest more i)
at_second c l r place n i j parts rest more long is whole second =
    let run : ℕ → List ℕ = part_run parts in
    let p : Process = fill_from n l parts in
    let x : List ℕ = between_sides c ++ first_piece r in
    let zs : List Place = places_in (suc place) p in
    let ws : List Place = places_in (right_start place c p) (fill_from (n + holes l) r parts) in
    let side = ap (λ (p : Place). p.start) (whole ∙ at_right zs ws none i j (holes l) long is) in
    let m : List (List ℕ) = take j (later_pieces r rest ++ more) in
    let taken : take i ((later_pieces l x ++ later_pieces r rest) ++ more) ≡ later_pieces l x ++ m =
    ap (take i) (append_assoc (later_pieces l x) (later_pieces r rest) more)
    ∙ ap (λ (k : ℕ). take k (later_pieces l x ++ (later_pieces r rest ++ more))) (let e : i ≡ length (later_pieces l x) + j = omega (arith, is, later_count l x) in e)
    ∙ take-append-add (later_pieces l x) (later_pieces r rest ++ more) j
    in
    let front = ap (λ (ps : List (List ℕ)). length (first_piece l ++ runs_with n ps run)) taken ∙ ap (λ (bytes : List ℕ). length bytes) (spelled_front n l parts x m) in
    let tagged : length (ahead n (Composed c l r) parts rest more i) ≡ suc (length (first_piece l ++ runs_with n (take i ((later_pieces l x ++ later_pieces r rest) ++ more)) run)) = refl in
    let one = length-append (spelling p) (x ++ runs_with (n + holes l) m run) in
    let two = length-append x (runs_with (n + holes l) m run) in
    let three = length-append (between_sides c) (first_piece r) in
    let four = length-append (first_piece r) (runs_with (n + holes l) m run) in
    omega (arith, second, side, front, tagged, one, two, three, four)

starts : (s : Shape) (place n i : ℕ) (parts : List Process) (rest : List ℕ) (more : List (List ℕ)) → ((j : ℕ) → IsPart (part_at parts j)) → i < holes s
    → (place_at (places_in place (fill_from n s parts)) i).start ≡ place + length (ahead n s parts rest more i)
starts Hole place n zero parts rest more are within = ap (λ (ps : List Place). (place_at ps 0).start) (part_place (part_at parts n) place (are n)) ∙ omega arith
starts Hole place n (suc i) parts rest more are within = absurd (omega (arith, within))
starts (Composed c l r) place n i parts rest more are within =
    let run : ℕ → List ℕ = part_run parts in
    let p : Process = fill_from n l parts in
    let q : Process = fill_from (n + holes l) r parts in
    let x : List ℕ = between_sides c ++ first_piece r in
    let zs : List Place = places_in (suc place) p in
    let ws : List Place = places_in (right_start place c p) q in
    let whole : place_at (places_in place (compose c p q)) i ≡ place_at (zs ++ ws) i = ap (λ (ps : List Place). place_at ps i) (composed_places place c p q) in
    elim (side_cases i (holes l) (holes r) within) [
      | inl lo ↦ at_first c l r place n i parts rest more (filled_count n l parts (suc place) are) lo whole (starts l (suc place) n i parts x (later_pieces r rest ++ more) are lo)
      | inr (j, is, lt) ↦ at_second c l r place n i j parts rest more (filled_count n l parts (suc place) are) is whole (starts r (right_start place c p) (n + holes l) j parts rest more are lt)
    ]
starts (Framed f s) place n i parts rest more are within =
    let only = starts s (suc place) n i parts (behind_body f ++ rest) more are within in
    let side = ap (λ (ps : List Place). (place_at ps i).start) (framed_places place f (fill_from n s parts)) in
    omega (arith, only, side)

-- ---- the parts of a process

all_at : (ps : List Process) → AllByRecursion IsPart ps → (j : ℕ) → IsPart (part_at ps j)
all_at [] all j = refl
all_at (p ∷ ps) all zero = all.0
all_at (p ∷ ps) all (suc j) = all_at ps all.1 j

start_is : (p : Process) (i : ℕ) → i < holes (shape_of p) → (place_at (places_in 0 p) i).start ≡ run_start (shape_of p) (parts_of p) i
start_is p i within =
    let s = shape_of p in
    let parts = parts_of p in
    let again = ap (λ (q : Process). (place_at (places_in 0 q) i).start) (sym (filled_again p)) in
    let begun = starts s 0 0 i parts [] [] (all_at parts (only_parts p)) within in
    let same = ap (λ (ps : List (List ℕ)). length (first_piece s ++ runs_with 0 (take i ps) (part_run parts))) (append-nil (later_pieces s [])) in
    omega (arith, again, begun, same)

pub are_runs : (p : Process) → AreRunsOf (shape_of p) (parts_of p) (places_in 0 p)
are_runs p i within = record {
  start = start_is p i within;
  end = let one = start_is p i within in let two = each_length p 0 i within in omega (arith, one, two);
}

-- ---- the sides of a process that is spelled in a place

pub sides_placed : (p : Process) (c : Composition) (l r : Process) (start end left right : ℕ) → p ≡ compose c l r → end ≡ start + length (spelling p) → left ≡ length (spelling l) → right ≡ length (spelling r)
    → (start + 1 + left ≤ end) × (right ≤ end) × (end - right ≡ right_start start c l)
sides_placed p c l r start end left right is whole first second =
    let e = ap (λ (q : Process). length (spelling q)) is ∙ composed_length c l r in
    (omega (arith, e, whole, first, second), omega (arith, e, whole, first, second), omega (arith, e, whole, first, second))

pub body_placed : (p : Process) (f : Frame) (b : Process) (start end body : ℕ) → p ≡ enframe f b → end ≡ start + length (spelling p) → body ≡ length (spelling b) → start + 1 + body ≤ end
body_placed p f b start end body is whole only = let e = ap (λ (q : Process). length (spelling q)) is ∙ framed_length f b in omega (arith, e, whole, only)

pub both_placed : (p : Process) (c : Composition) (l r : Process) (start at : ℕ) (old between new : List Place) → p ≡ compose c l r → at ≡ right_start start c l → between ≡ old ++ places_in (start + 1) l → new ≡ between ++ places_in at r
    → new ≡ old ++ places_in start p
both_placed p c l r start at old between new is begun first second =
    let left : List Place = places_in (suc start) l in
    let right : List Place = places_in (right_start start c l) r in
    let one : places_in (start + 1) l ≡ left = ap (λ (k : ℕ). places_in k l) (omega arith) in
    let two : places_in at r ≡ right = ap (λ (k : ℕ). places_in k r) begun in
    second ∙ ap₂ (λ (xs : List Place) (ys : List Place). xs ++ ys) (first ∙ ap (λ (xs : List Place). old ++ xs) one) two ∙ append_assoc old left right
    ∙ ap (λ (xs : List Place). old ++ xs) (sym (ap (places_in start) is ∙ composed_places start c l r))
