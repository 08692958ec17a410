-- Pieces and runs, one after the other.
use Rattle.std.proofs.Common.{◌≡◌, ℕ, ◌+◌, ◌<◌, suc, List, [], ◌∷◌, ◌++◌, length, get_or, take, drop, refl, sym, ap, ap₂, ◌∙◌, arith}
use Rattle.std.proofs.lemmas.List.{append-nil, drop_at, drop_more, length-append, length-take, take_all, take_at, take-take, drop-take}
use Rattle.theory_syntax.specs.Process.{Process}
use Rattle.theory_spelling.specs.Spelling.{spelling}
use Rattle.theory_shapes.specs.Shape.{Shape, holes, part_at, fill}
use Rattle.theory_shapes.specs.Pieces.{first_piece, pieces, in_turn, part_run, run_start, run_end}
use Rattle.theory_shapes.proofs.InPlace.{divided, same_turn, whole_at}
use Rattle.theory_shapes.proofs.Spelled.{piece_count, spelled_whole}

-- what is left of one more than so many is the one
one_left : (i : ℕ) (ps : List (List ℕ)) → suc i < length ps → drop (suc i) (take (suc (suc i)) ps) ≡ get_or ps (suc i) [] ∷ []
one_left i ps within =
    ap (λ (k : ℕ). drop (suc i) (take k ps)) (let e : suc (suc i) ≡ suc i + 1 = omega arith in e) ∙ drop-take (suc i) 1 ps
    ∙ ap (take 1) (drop_more ps (suc i) [] within)

module _ (s : Shape) where
  -- what comes before a hole
  abbrev before : List Process → ℕ → List ℕ
  before parts i = in_turn 0 (take (suc i) (pieces s)) (part_run parts)

  pub before_first : (parts : List Process) → before parts 0 ≡ first_piece s
  before_first parts = append-nil (first_piece s)

  pub before_next : (parts : List Process) (i : ℕ) → i < holes s → before parts (suc i) ≡ before parts i ++ (part_run parts i ++ get_or (pieces s) (suc i) [])
  before_next parts i within =
      let ps = pieces s in
      let run = part_run parts in
      let more : suc i < length ps = omega (arith, piece_count s, within) in
      divided 0 i (take (suc (suc i)) ps) run (omega (arith, length-take (suc (suc i)) ps, more))
      ∙ ap₂ (λ (front : List (List ℕ)) (back : List (List ℕ)). in_turn 0 front run ++ (run (0 + i) ++ in_turn (suc (0 + i)) back run)) (take-take (suc i) (suc (suc i)) ps (omega arith)) (one_left i ps more)
      ∙ ap₂ (λ (k : ℕ) (piece : List ℕ). before parts i ++ (run k ++ piece)) (omega arith) (append-nil (get_or ps (suc i) []))

  pub before_end : (parts : List Process) → before parts (holes s) ≡ spelling (fill s parts)
  before_end parts = ap (λ (ps : List (List ℕ)). in_turn 0 ps (part_run parts)) (take_all (suc (holes s)) (pieces s) (omega (arith, piece_count s))) ∙ sym (spelled_whole s parts)

  pub before_alike : (parts others : List Process) (i : ℕ) → ((j : ℕ) → j < i → part_at parts j ≡ part_at others j) → before parts i ≡ before others i
  before_alike parts others i same =
      same_turn 0 (take (suc i) (pieces s)) (part_run parts) (part_run others) (λ j lo hi. ap spelling (same j (omega (arith, hi, length-take (suc i) (pieces s)))))

  pub start_next : (parts : List Process) (i : ℕ) → i < holes s → run_start s parts (suc i) ≡ run_end s parts i + length (get_or (pieces s) (suc i) [])
  start_next parts i within =
      let whole = ap (λ (bytes : List ℕ). length bytes) (before_next parts i within) in
      let front = length-append (before parts i) (part_run parts i ++ get_or (pieces s) (suc i) []) in
      let back = length-append (part_run parts i) (get_or (pieces s) (suc i) []) in
      omega (arith, whole, front, back)

  pub run_stands : (parts : List Process) (i : ℕ) → length parts ≡ holes s → i < holes s → take (length (part_run parts i)) (drop (run_start s parts i) (spelling (fill s parts))) ≡ part_run parts i
  run_stands parts i long within =
      let run = part_run parts i in
      let rest = in_turn (suc i) (drop (suc i) (pieces s)) (part_run parts) in
      ap (λ (bytes : List ℕ). take (length run) (drop (run_start s parts i) bytes)) (whole_at s parts long i within)
      ∙ ap (take (length run)) (drop_at (before parts i) (run ++ rest) (run_start s parts i) refl) ∙ take_at run rest (length run) refl
