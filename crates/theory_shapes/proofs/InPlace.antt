-- Where parts take the places of others, so do their spellings.
use Rattle.std.proofs.Common.{◌≡◌, ℕ, ◌+◌, ◌-◌, ◌≤◌, ◌<◌, zero, suc, List, [], ◌∷◌, ◌++◌, length, take, drop, refl, sym, ap, ap₂, ◌∙◌, arith, append_assoc}
use Rattle.std.proofs.lemmas.List.{length-append, length-take, length-drop, drop-drop, take_at, drop_at}
use Rattle.theory_syntax.specs.Process.{Process}
use Rattle.theory_spelling.specs.Spelling.{spelling}
use Rattle.theory_shapes.specs.Shape.{Shape, holes, fill}
use Rattle.theory_shapes.specs.Changes.{Change, RiseWithin, changed}
use Rattle.theory_shapes.specs.Edits.{edited}
use Rattle.theory_shapes.specs.Pieces.{pieces, runs_with, in_turn, part_run, run_start, run_end, change_edits}
use Rattle.theory_shapes.proofs.Changing.{rise_on, stays_before, first_changed, first_leaves}
use Rattle.theory_shapes.proofs.Spelled.{piece_count, spelled_whole}

-- ---- pieces and runs in turn, divided at a run

runs_divided : (n i : ℕ) (more : List (List ℕ)) (run : ℕ → List ℕ) → i < length more → runs_with n more run ≡ runs_with n (take i more) run ++ (run (n + i) ++ in_turn (suc (n + i)) (drop i more) run)
runs_divided n i [] run within = absurd (omega (arith, within))
runs_divided n zero (piece ∷ more) run within = ap (λ (k : ℕ). run k ++ (piece ++ runs_with (suc k) more run)) (omega arith)
runs_divided n (suc i) (piece ∷ more) run within =
    let front = runs_with (suc n) (take i more) run in
    let back : ℕ → List ℕ = λ k. run k ++ in_turn (suc k) (drop i more) run in
    ap (λ (bytes : List ℕ). run n ++ (piece ++ bytes)) (runs_divided (suc n) i more run (omega (arith, within)) ∙ ap (λ (k : ℕ). front ++ back k) (omega arith))
    ∙ ap (λ (bytes : List ℕ). run n ++ bytes) (sym (append_assoc piece front (back (n + suc i))))
    ∙ sym (append_assoc (run n) (piece ++ front) (back (n + suc i)))

pub divided : (n i : ℕ) (ps : List (List ℕ)) (run : ℕ → List ℕ) → suc i < length ps → in_turn n ps run ≡ in_turn n (take (suc i) ps) run ++ (run (n + i) ++ in_turn (suc (n + i)) (drop (suc i) ps) run)
divided n i [] run within = absurd (omega (arith, within))
divided n i (piece ∷ more) run within =
    ap (λ (bytes : List ℕ). piece ++ bytes) (runs_divided n i more run (omega (arith, within)))
    ∙ sym (append_assoc piece (runs_with n (take i more) run) (run (n + i) ++ in_turn (suc (n + i)) (drop i more) run))

-- runs that are the same

same_runs : (n : ℕ) (more : List (List ℕ)) (run other : ℕ → List ℕ) → ((i : ℕ) → n ≤ i → i < n + length more → run i ≡ other i) → runs_with n more run ≡ runs_with n more other
same_runs n [] run other same = refl
same_runs n (piece ∷ more) run other same =
    ap₂ (λ (r : List ℕ) (bytes : List ℕ). r ++ (piece ++ bytes)) (same n (omega arith) (omega arith)) (same_runs (suc n) more run other (λ i from to. same i (omega (arith, from)) (omega (arith, to))))

pub same_turn : (n : ℕ) (ps : List (List ℕ)) (run other : ℕ → List ℕ) → ((i : ℕ) → n ≤ i → suc i < n + length ps → run i ≡ other i) → in_turn n ps run ≡ in_turn n ps other
same_turn n [] run other same = refl
same_turn n (piece ∷ more) run other same = ap (λ (bytes : List ℕ). piece ++ bytes) (same_runs n more run other (λ i from to. same i from (omega (arith, to))))

dropped : (n h : ℕ) (ps : List (List ℕ)) → n ≤ h → drop (suc (h - n)) (drop n ps) ≡ drop (suc h) ps
dropped n h ps on = let k : n + suc (h - n) ≡ suc h = omega (arith, on) in drop-drop (suc (h - n)) n ps ∙ ap (λ (i : ℕ). drop i ps) k

-- ---- the changes, one after the other

module _ (s : Shape) (parts : List Process) (long : length parts ≡ holes s) where
  abbrev ps : List (List ℕ)
  ps = pieces s

  abbrev run : ℕ → List ℕ
  run = part_run parts

  abbrev bytes : List ℕ
  bytes = spelling (fill s parts)

  -- what is spelled from a hole on, once some changes are made
  abbrev from : ℕ → List Change → List ℕ
  from n cs = in_turn n (drop n ps) (part_run (changed cs parts))

  abbrev front : ℕ → ℕ → List ℕ
  front n h = in_turn n (take (suc (h - n)) (drop n ps)) run

  front_at : (n h : ℕ) → n ≤ h → h < holes s → from n [] ≡ front n h ++ (run h ++ from (suc h) [])
  front_at n h from_n within =
      divided n (h - n) (drop n ps) run (omega (arith, length-drop n ps, piece_count s, from_n, within))
      ∙ ap₂ (λ (k : ℕ) (qs : List (List ℕ)). front n h ++ (run k ++ in_turn (suc k) qs run)) (omega (arith, from_n)) (dropped n h ps from_n)

  pub whole_at : (h : ℕ) → h < holes s → bytes ≡ in_turn 0 (take (suc h) ps) run ++ (run h ++ from (suc h) [])
  whole_at h within = spelled_whole s parts ∙ divided 0 h ps run (omega (arith, piece_count s, within)) ∙ ap (λ (k : ℕ). in_turn 0 (take (suc h) ps) run ++ (run k ++ in_turn (suc k) (drop (suc h) ps) run)) (omega arith)

  behind_run : (h : ℕ) → h < holes s → drop (run_end s parts h) bytes ≡ from (suc h) []
  behind_run h within =
      let before = in_turn 0 (take (suc h) ps) run in
      let rest = from (suc h) [] in
      ap (drop (run_end s parts h)) (whole_at h within ∙ sym (append_assoc before (run h) rest)) ∙ drop_at (before ++ run h) rest (run_end s parts h) (length-append before (run h))

  before_run : (n h place : ℕ) → n ≤ h → h < holes s → drop place bytes ≡ from n [] → take (run_start s parts h - place) (drop place bytes) ≡ front n h
  before_run n h place from_n within here =
      let rest = run h ++ from (suc h) [] in
      let before = in_turn 0 (take (suc h) ps) run in
      let mine = here ∙ front_at n h from_n within in
      let all : length bytes ≡ run_start s parts h + length rest = ap (λ (xs : List ℕ). length xs) (whole_at h within) ∙ length-append before rest in
      let left : length bytes - place ≡ length (front n h) + length rest = sym (length-drop place bytes) ∙ ap (λ (xs : List ℕ). length xs) mine ∙ length-append (front n h) rest in
      ap (take (run_start s parts h - place)) mine ∙ take_at (front n h) rest (run_start s parts h - place) (omega (arith, all, left))

  in_place : (n place : ℕ) (cs : List Change) → RiseWithin n (holes s) cs → drop place bytes ≡ from n [] → from n cs ≡ edited bytes place (change_edits s parts cs)
  in_place n place [] rise here = sym here
  in_place n place (c ∷ cs) rise here =
      let h = c.hole in
      let within : h < holes s = rise_on (suc h) (holes s) cs rise.1 in
      let run' = part_run (changed (c ∷ cs) parts) in
      let first : in_turn n (take (suc (h - n)) (drop n ps)) run' ≡ front n h =
      same_turn n (take (suc (h - n)) (drop n ps)) run' run (λ i lo hi. ap spelling (stays_before h (holes s) (c ∷ cs) parts i (omega arith, rise.1) (omega (arith, hi, length-take (suc (h - n)) (drop n ps), rise.0))))
      in
      let middle : run' h ≡ spelling c.part = ap spelling (first_changed c (holes s) cs parts (omega (arith, long, within)) rise.1) in
      let last : in_turn (suc h) (drop (suc h) ps) run' ≡ from (suc h) cs =
      same_turn (suc h) (drop (suc h) ps) run' (part_run (changed cs parts)) (λ i lo hi. ap spelling (first_leaves c cs parts i lo))
      in
      divided n (h - n) (drop n ps) run' (omega (arith, length-drop n ps, piece_count s, rise.0, within))
      ∙ ap₂ (λ (k : ℕ) (qs : List (List ℕ)). in_turn n (take (suc (h - n)) (drop n ps)) run' ++ (run' k ++ in_turn (suc k) qs run')) (omega (arith, rise.0)) (dropped n h ps rise.0)
      ∙ ap₂ (λ (xs : List ℕ) (ys : List ℕ). xs ++ ys) (first ∙ sym (before_run n h place rise.0 within here))
      (ap₂ (λ (xs : List ℕ) (ys : List ℕ). xs ++ ys) middle (last ∙ in_place (suc h) (run_end s parts h) cs rise.1 (behind_run h within)))

  pub changed_in_place : (cs : List Change) → RiseWithin 0 (holes s) cs → spelling (fill s (changed cs parts)) ≡ edited bytes 0 (change_edits s parts cs)
  changed_in_place cs rise = spelled_whole s (changed cs parts) ∙ in_place 0 0 cs rise (spelled_whole s parts)
