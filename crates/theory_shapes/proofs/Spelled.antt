-- A term is spelled by pieces, with its parts between them.
use Rattle.std.proofs.Common.{◌≡◌, ℕ, ◌+◌, suc, List, [], ◌∷◌, ◌++◌, length, refl, sym, ap, ap₂, ◌∙◌, arith, append_assoc}
use Rattle.std.proofs.lemmas.List.{append-nil, length-append}
use Rattle.theory_syntax.specs.Process.{Process}
use Rattle.theory_spelling.specs.Spelling.{event_set_spelling, spelling}
use Rattle.theory_shapes.specs.Shape.{Composition, Interleaved, Generalised, Alphabetised, compose, Frame, Hidden, Renamed, enframe, Shape, Hole, Composed, Framed, holes, fill_from, fill}
use Rattle.theory_shapes.specs.Pieces.{composition_tag, frame_tag, between_sides, behind_body, first_piece, later_pieces, pieces, runs_with, in_turn, part_run}

pub composed_spelling : (c : Composition) (p q : Process) → spelling (compose c p q) ≡ composition_tag c ∷ (spelling p ++ (between_sides c ++ spelling q))
composed_spelling Interleaved p q = refl
composed_spelling (Generalised a) p q = ap (λ (bytes : List ℕ). 0x0d ∷ bytes) (append_assoc (spelling p) (event_set_spelling a) (spelling q))
composed_spelling (Alphabetised a b) p q =
    ap (λ (bytes : List ℕ). 0x0e ∷ bytes)
    (ap (λ (bytes : List ℕ). bytes ++ spelling q) (append_assoc (spelling p) (event_set_spelling a) (event_set_spelling b)) ∙ append_assoc (spelling p) (event_set_spelling a ++ event_set_spelling b) (spelling q))

pub framed_spelling : (f : Frame) (p : Process) → spelling (enframe f p) ≡ frame_tag f ∷ (spelling p ++ behind_body f)
framed_spelling (Hidden a) p = refl
framed_spelling (Renamed rs) p = refl

-- the spelling of a shape with its parts, and what comes behind it
spelled_front : (n : ℕ) (s : Shape) (parts : List Process) (rest : List ℕ) (more : List (List ℕ)) →
    first_piece s ++ runs_with n (later_pieces s rest ++ more) (part_run parts) ≡ spelling (fill_from n s parts) ++ (rest ++ runs_with (n + holes s) more (part_run parts))
spelled_front n Hole parts rest more = ap (λ (k : ℕ). part_run parts n ++ (rest ++ runs_with k more (part_run parts))) (omega arith)
spelled_front n (Composed c l r) parts rest more =
    let run = part_run parts in
    let m = n + holes l in
    let p = fill_from n l parts in
    let q = fill_from m r parts in
    let between = between_sides c in
    let end = rest ++ runs_with (n + (holes l + holes r)) more run in
    let left = spelled_front n l parts (between ++ first_piece r) (later_pieces r rest ++ more) in
    let right : first_piece r ++ runs_with m (later_pieces r rest ++ more) run ≡ spelling q ++ end =
    spelled_front m r parts rest more ∙ ap (λ (k : ℕ). spelling q ++ (rest ++ runs_with k more run)) (omega arith)
    in
    ap (λ (bytes : List ℕ). composition_tag c ∷ bytes)
    (ap (λ (ps : List (List ℕ)). first_piece l ++ runs_with n ps run) (append_assoc (later_pieces l (between ++ first_piece r)) (later_pieces r rest) more) ∙ left
    ∙ ap (λ (bytes : List ℕ). spelling p ++ bytes) (append_assoc between (first_piece r) (runs_with m (later_pieces r rest ++ more) run) ∙ ap (λ (bytes : List ℕ). between ++ bytes) right ∙ sym (append_assoc between (spelling q) end))
    ∙ sym (append_assoc (spelling p) (between ++ spelling q) end))
    ∙ ap (λ (bytes : List ℕ). bytes ++ end) (sym (composed_spelling c p q))
spelled_front n (Framed f s) parts rest more =
    let run = part_run parts in
    let p = fill_from n s parts in
    let end = rest ++ runs_with (n + holes s) more run in
    ap (λ (bytes : List ℕ). frame_tag f ∷ bytes)
    (spelled_front n s parts (behind_body f ++ rest) more
    ∙ ap (λ (bytes : List ℕ). spelling p ++ bytes) (append_assoc (behind_body f) rest (runs_with (n + holes s) more run))
    ∙ sym (append_assoc (spelling p) (behind_body f) end))
    ∙ ap (λ (bytes : List ℕ). bytes ++ end) (sym (framed_spelling f p))

pub spelled_whole : (s : Shape) (parts : List Process) → spelling (fill s parts) ≡ in_turn 0 (pieces s) (part_run parts)
spelled_whole s parts =
    sym (append-nil (spelling (fill s parts))) ∙ sym (spelled_front 0 s parts [] [])
    ∙ ap (λ (ps : List (List ℕ)). first_piece s ++ runs_with 0 ps (part_run parts)) (append-nil (later_pieces s []))

later_count : (s : Shape) (rest : List ℕ) → length (later_pieces s rest) ≡ holes s
later_count Hole rest = refl
later_count (Composed c l r) rest =
    length-append (later_pieces l (between_sides c ++ first_piece r)) (later_pieces r rest) ∙ ap₂ ◌+◌ (later_count l (between_sides c ++ first_piece r)) (later_count r rest)
later_count (Framed f s) rest = later_count s (behind_body f ++ rest)

pub piece_count : (s : Shape) → length (pieces s) ≡ suc (holes s)
piece_count s = ap suc (later_count s [])
