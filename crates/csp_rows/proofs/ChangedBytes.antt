-- What changes make of the bytes of a row.
use Rattle.std.proofs.Common.{◌≡◌, ◌≤◌, ℕ, zero, suc, ◌+◌, ◌-◌, List, [], ◌∷◌, length, refl, sym, ap, ap₂, subst, ◌∙◌, arith}
use Rattle.theory_syntax.specs.Process.{Process}
use Rattle.theory_spelling.specs.Spelling.{spelling}
use Rattle.theory_shapes.specs.Changes as pure
use Rattle.theory_shapes.specs.Edits.{Edit, edited}
use Rattle.theory_shapes.specs.Pieces.{change_edits, run_end, run_start}
use Rattle.theory_shapes.specs.Shape.{Shape, fill, holes}
use Rattle.theory_shapes.proofs.Changing.{rise_on}
use Rattle.theory_shapes.proofs.InPlace.{changed_in_place}
use Rattle.theory_shapes.proofs.InTurn.{before_end, start_next}
use Rattle.csp_rows.specs.declared.changes.Change.{Change}
use Rattle.csp_rows.specs.declared.part.Part.{Part}
use Rattle.csp_rows.specs.declared.places.Place.{Place}
use Rattle.csp_rows.specs.Numbering.{Numbering}
use Rattle.csp_rows.specs.Runs.{AreAmong, changes_in}
use Rattle.csp_rows.specs.Places.{AreChangesOf, IsRowOf, IsTargetOf, RiseUpTo, edit_of, edits_of}

-- ---- runs stand from left to right

module _ (s : Shape) (ps : List Process) where
  starts_rise : (k i j : ℕ) → j ≡ i + k → j ≤ holes s → run_start s ps i ≤ run_start s ps j
  starts_rise zero i j is within = let e : i ≡ j = omega (arith, is) in subst (λ (m : ℕ). run_start s ps i ≤ run_start s ps m) e (omega arith)
  starts_rise (suc k) i j is within = let on = starts_rise k (suc i) j (omega (arith, is)) within in let next = start_next s ps i (omega (arith, is, within)) in omega (arith, on, next)

  start_on : (i j : ℕ) → i ≤ j → j ≤ holes s → run_start s ps i ≤ run_start s ps j
  start_on i j le within = let e : j ≡ i + (j - i) = omega (arith, le) in starts_rise (j - i) i j e within

  edits_from : (n place : ℕ) (cs : List pure.Change) → pure.RiseWithin n (holes s) cs → place ≤ run_start s ps n → RiseUpTo place (length (spelling (fill s ps))) (change_edits s ps cs)
  edits_from n place [] rise here =
      let on = start_on n (holes s) rise (omega arith) in
      let all = ap (λ (xs : List ℕ). length xs) (before_end s ps) in
      omega (arith, here, on, all)
  edits_from n place (c ∷ cs) rise here =
      let lt = rise_on (suc c.hole) (holes s) cs rise.1 in
      let on = start_on n c.hole rise.0 (omega (arith, lt)) in
      let next = start_next s ps c.hole (omega (arith, lt)) in
      (omega (arith, here, on), omega arith, edits_from (suc c.hole) (run_end s ps c.hole) cs rise.1 (omega (arith, next)))

  pub edits_rise : (cs : List pure.Change) → pure.RiseWithin 0 (holes s) cs → RiseUpTo 0 (length (spelling (fill s ps))) (change_edits s ps cs)
  edits_rise cs rise = edits_from 0 0 cs rise (omega arith)

-- ---- edits by numbers

module _ {A : Type 0} (z : Numbering) (s : Shape) (ps : List Process) (bytes : List ℕ) (places : List Place) (parts : List (Part A)) (row : IsRowOf z s ps bytes places parts) where
  same_edits : (n : ℕ) (cs : List Change) → pure.RiseWithin n (holes s) (changes_in z cs) → AreAmong (length parts) cs → edits_of places parts cs ≡ change_edits s ps (changes_in z cs)
  same_edits n [] rise known = refl
  same_edits n (c ∷ cs) rise known =
      let lt = rise_on (suc c.hole) (holes s) (changes_in z cs) rise.1 in
      let run = row.runs c.hole (omega (arith, lt)) in
      let spelled = row.known c.part.0 known.0 in
      let start = run.start in
      let end = run.end in
      let one : edit_of places parts c ≡ record { start = run_start s ps c.hole; end = run_end s ps c.hole; bytes = spelling (z.part c.part.0) } = λ i. record { start = start i; end = end i; bytes = spelled i } in
      ap₂ (λ (e : Edit) (es : List Edit). e ∷ es) one (same_edits (suc c.hole) cs rise.1 known.1)

  -- so the edits may be made
  pub may_be_made : (cs : List Change) → AreChangesOf z s parts cs → RiseUpTo 0 (length bytes) (edits_of places parts cs)
  may_be_made cs are =
      subst (λ (es : List Edit). RiseUpTo 0 (length bytes) es) (sym (same_edits 0 cs are.rising are.known))
      (subst (λ (xs : List ℕ). RiseUpTo 0 (length xs) (change_edits s ps (changes_in z cs))) (sym row.spelled) (edits_rise s ps (changes_in z cs) are.rising))

  pub target_spelled : (cs : List Change) (target : List ℕ) → AreChangesOf z s parts cs → target ≡ edited bytes 0 (edits_of places parts cs) → target ≡ spelling (fill s (pure.changed (changes_in z cs) ps))
  target_spelled cs target are is =
      is ∙ ap₂ (λ (xs : List ℕ) (es : List Edit). edited xs 0 es) row.spelled (same_edits 0 cs are.rising are.known) ∙ sym (changed_in_place s ps row.filled (changes_in z cs) are.rising)

pub is_target : {A : Type 0} (bytes : List ℕ) (places : List Place) (cs : List Change) (parts : List (Part A)) (target : List ℕ) → target ≡ edited bytes 0 (edits_of places parts cs) → IsTargetOf bytes places cs parts target
is_target bytes places cs parts target is = λ z s ps row are. target_spelled z s ps bytes places parts row cs target are is
