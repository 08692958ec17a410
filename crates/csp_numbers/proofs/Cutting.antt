-- The bytes round the runs of a shape's parts are its pieces.
use Rattle.std.proofs.Common.{◌≡◌, ℕ, ◌+◌, ◌-◌, ◌≤◌, ◌<◌, zero, suc, List, [], ◌∷◌, ◌++◌, length, take, drop, get_or, refl, sym, ap, ap₂, subst, ◌∙◌, inl, inr, arith, append_assoc}
use Rattle.std.proofs.lemmas.Bool.{cases_lt}
use Rattle.std.proofs.lemmas.List.{append-nil, drop_at, drop_more, length-append, take_at}
use Rattle.theory_syntax.specs.Process.{Process}
use Rattle.theory_spelling.specs.Spelling.{spelling}
use Rattle.theory_shapes.specs.Shape.{Shape, Hole, Composed, Framed, holes, fill}
use Rattle.theory_shapes.specs.Parts.{parts_of, shape_of}
use Rattle.theory_shapes.specs.Pieces.{before_hole, first_piece, part_run, pieces, run_end, run_start}
use Rattle.theory_shapes.proofs.Apart.{as_many, filled_again}
use Rattle.theory_shapes.proofs.InPlace.{whole_at}
use Rattle.theory_shapes.proofs.InTurn.{before_end, before_first, before_next, start_next}
use Rattle.theory_shapes.proofs.Spelled.{piece_count}
use Rattle.csp_rows.specs.declared.places.Place.{Place}
use Rattle.csp_rows.specs.Places.{AreRunsOf, place_at}
use Rattle.csp_numbers.specs.Cut.{ArePlacesIn, cut_from}

abbrev none : Place
none = record { start = 0; end = 0 }

some_hole : (s : Shape) → 1 ≤ holes s
some_hole Hole = omega arith
some_hole (Composed c l r) = let e = some_hole l in omega (arith, e)
some_hole (Framed f s) = some_hole s

-- the rest of a list at a place, where that is there and where it is not
rest_at : {X : Type 0} (xs : List X) (i : ℕ) (d : X) → i < length xs → drop i xs ≡ get_or xs i d ∷ drop (suc i) xs
rest_at xs i d within = drop_more xs i d within ∙ ap (λ (k : ℕ). get_or xs i d ∷ drop k xs) (let e : i + 1 ≡ suc i = omega arith in e)

no_rest : {X : Type 0} (xs : List X) (i : ℕ) → length xs ≤ i → drop i xs ≡ []
no_rest [] zero past = refl
no_rest [] (suc i) past = refl
no_rest (x ∷ xs) zero past = absurd (omega (arith, past))
no_rest (x ∷ xs) (suc i) past = no_rest xs i (omega (arith, past))

-- ---- places from left to right

end_within : (here n : ℕ) (ps : List Place) → ArePlacesIn here n ps → here ≤ n
end_within here n [] are = are
end_within here n (p ∷ ps) are = let first = are.0 in let second = are.1 in let on = end_within p.end n ps are.2 in omega (arith, first, second, on)

pub start_within : (bytes : List ℕ) (places : List Place) (here i : ℕ) → i < length places → ArePlacesIn here (length bytes) (drop i places) → (place_at places i).start ≤ length bytes
start_within bytes places here i lt are =
    let rest = subst (ArePlacesIn here (length bytes)) (rest_at places i none lt) are in
    let first = rest.1 in
    let on = end_within (place_at places i).end (length bytes) (drop (suc i) places) rest.2 in
    omega (arith, first, on)

-- ---- the runs of a shape

module _ (s : Shape) (parts : List Process) (long : length parts ≡ holes s) where
  abbrev bytes : List ℕ
  bytes = spelling (fill s parts)

  abbrev piece : ℕ → List ℕ
  piece i = get_or (pieces s) i []

  -- what comes behind that before a hole
  goes_on : (i : ℕ) → i ≤ holes s → (rest : List ℕ) × (bytes ≡ before_hole s parts i ++ rest)
  goes_on i le = elim (cases_lt i (holes s)) [
    | inl lt ↦ (_, whole_at s parts long i lt)
    | inr ge ↦
        let e : holes s ≡ i = omega (arith, le, ge) in
        ([], sym (before_end s parts) ∙ ap (before_hole s parts) e ∙ sym (append-nil (before_hole s parts i)))
  ]

  piece_behind : (i : ℕ) → i < holes s → take (run_start s parts (suc i) - run_end s parts i) (drop (run_end s parts i) bytes) ≡ piece (suc i)
  piece_behind i lt =
      let on = goes_on (suc i) lt in
      let front : List ℕ = before_hole s parts i ++ part_run parts i in
      let whole : bytes ≡ front ++ (piece (suc i) ++ on.0) =
      on.1 ∙ ap (λ (bs : List ℕ). bs ++ on.0) (before_next s parts i lt ∙ sym (append_assoc (before_hole s parts i) (part_run parts i) (piece (suc i)))) ∙ append_assoc front (piece (suc i)) on.0
      in
      let count : run_start s parts (suc i) - run_end s parts i ≡ length (piece (suc i)) = let e = start_next s parts i lt in omega (arith, e) in
      ap (λ (k : ℕ). take k (drop (run_end s parts i) bytes)) count
      ∙ ap (λ (bs : List ℕ). take (length (piece (suc i))) (drop (run_end s parts i) bs)) whole
      ∙ ap (take (length (piece (suc i)))) (drop_at front (piece (suc i) ++ on.0) (run_end s parts i) (length-append (before_hole s parts i) (part_run parts i)))
      ∙ take_at (piece (suc i)) on.0 (length (piece (suc i))) refl

  last_piece : (i : ℕ) → suc i ≡ holes s → drop (run_end s parts i) bytes ≡ piece (suc i)
  last_piece i is =
      let lt : i < holes s = omega (arith, is) in
      let front : List ℕ = before_hole s parts i ++ part_run parts i in
      let whole : bytes ≡ front ++ piece (suc i) =
      sym (before_end s parts) ∙ ap (before_hole s parts) (sym is) ∙ before_next s parts i lt ∙ sym (append_assoc (before_hole s parts i) (part_run parts i) (piece (suc i)))
      in
      ap (drop (run_end s parts i)) whole ∙ drop_at front (piece (suc i)) (run_end s parts i) (length-append (before_hole s parts i) (part_run parts i))

  first_cut : take (run_start s parts 0 - 0) (drop 0 bytes) ≡ first_piece s
  first_cut =
      let on = goes_on 0 (omega arith) in
      let whole : run_start s parts 0 - 0 ≡ run_start s parts 0 = omega arith in
      ap (λ (k : ℕ). take k bytes) whole ∙ ap (take (run_start s parts 0)) on.1 ∙ take_at (before_hole s parts 0) on.0 (run_start s parts 0) refl ∙ before_first s parts

  module _ (places : List Place) (count : length places ≡ holes s) (runs : AreRunsOf s parts places) where
    -- the place of the next run
    next_place : (i : ℕ) → i < holes s → drop i places ≡ place_at places i ∷ drop (suc i) places
    next_place i lt = rest_at places i none (omega (arith, count, lt))

    cut_rest : (k i : ℕ) → suc i + k ≡ holes s → cut_from (run_end s parts i) bytes (drop (suc i) places) ≡ drop (suc i) (pieces s)
    cut_rest zero i is =
        let past : length places ≤ suc i = omega (arith, is, count) in
        let lt : suc i < length (pieces s) = omega (arith, is, piece_count s) in
        let none_left = no_rest (pieces s) (suc (suc i)) (omega (arith, is, piece_count s)) in
        ap (cut_from (run_end s parts i) bytes) (no_rest places (suc i) past)
        ∙ ap (λ (bs : List ℕ). bs ∷ []) (last_piece i (omega (arith, is)))
        ∙ sym (rest_at (pieces s) (suc i) [] lt ∙ ap (λ (ps : List (List ℕ)). piece (suc i) ∷ ps) none_left)
    cut_rest (suc k) i is =
        let lt : suc i < holes s = omega (arith, is) in
        let one = runs (suc i) lt in
        let start = one.start in
        let end = one.end in
        ap (cut_from (run_end s parts i) bytes) (next_place (suc i) lt)
        ∙ ap₂ (λ (a : ℕ) (b : ℕ). take (a - run_end s parts i) (drop (run_end s parts i) bytes) ∷ cut_from b bytes (drop (suc (suc i)) places)) start end
        ∙ ap₂ (λ (x : List ℕ) (xs : List (List ℕ)). x ∷ xs) (piece_behind i (omega (arith, is))) (cut_rest k (suc i) (omega (arith, is)))
        ∙ sym (rest_at (pieces s) (suc i) [] (omega (arith, is, piece_count s)))

    pub cut_whole : cut_from 0 bytes places ≡ pieces s
    cut_whole =
        let some = some_hole s in
        let one = runs 0 (omega (arith, some)) in
        let start = one.start in
        let end = one.end in
        let k : suc 0 + (holes s - 1) ≡ holes s = omega (arith, some) in
        ap (cut_from 0 bytes) (next_place 0 (omega (arith, some)))
        ∙ ap₂ (λ (a : ℕ) (b : ℕ). take (a - 0) (drop 0 bytes) ∷ cut_from b bytes (drop 1 places)) start end
        ∙ ap₂ (λ (x : List ℕ) (xs : List (List ℕ)). x ∷ xs) first_cut (cut_rest (holes s - 1) 0 k)

    rise_rest : (k i : ℕ) → suc i + k ≡ holes s → ArePlacesIn (run_end s parts i) (length bytes) (drop (suc i) places)
    rise_rest zero i is =
        let next = start_next s parts i (omega (arith, is)) in
        let e : run_start s parts (suc i) ≡ length bytes = ap (λ (j : ℕ). run_start s parts j) (let e : suc i ≡ holes s = omega (arith, is) in e) ∙ ap (λ (bs : List ℕ). length bs) (before_end s parts) in
        subst (ArePlacesIn (run_end s parts i) (length bytes)) (sym (no_rest places (suc i) (omega (arith, is, count)))) (omega (arith, next, e))
    rise_rest (suc k) i is =
        let lt : suc i < holes s = omega (arith, is) in
        let one = runs (suc i) lt in
        let start = one.start in
        let end = one.end in
        let next = start_next s parts i (omega (arith, is)) in
        let on = subst (λ (b : ℕ). ArePlacesIn b (length bytes) (drop (suc (suc i)) places)) (sym end) (rise_rest k (suc i) (omega (arith, is))) in
        subst (ArePlacesIn (run_end s parts i) (length bytes)) (sym (next_place (suc i) lt)) (omega (arith, start, next), omega (arith, start, end), on)

    pub rise_whole : ArePlacesIn 0 (length bytes) places
    rise_whole =
        let some = some_hole s in
        let one = runs 0 (omega (arith, some)) in
        let start = one.start in
        let end = one.end in
        let k : suc 0 + (holes s - 1) ≡ holes s = omega (arith, some) in
        let on = subst (λ (b : ℕ). ArePlacesIn b (length bytes) (drop 1 places)) (sym end) (rise_rest (holes s - 1) 0 k) in
        subst (ArePlacesIn 0 (length bytes)) (sym (next_place 0 (omega (arith, some)))) (omega arith, omega (arith, start, end), on)

-- of a process by its shape and parts
module _ (p : Process) (places : List Place) (count : length places ≡ holes (shape_of p)) (runs : AreRunsOf (shape_of p) (parts_of p) places) where
  pub cut_process : cut_from 0 (spelling p) places ≡ pieces (shape_of p)
  cut_process = ap (λ (q : Process). cut_from 0 (spelling q) places) (sym (filled_again p)) ∙ cut_whole (shape_of p) (parts_of p) (as_many p) places count runs

  pub rise_process : ArePlacesIn 0 (length (spelling p)) places
  rise_process = subst (λ (q : Process). ArePlacesIn 0 (length (spelling q)) places) (filled_again p) (rise_whole (shape_of p) (parts_of p) (as_many p) places count runs)
