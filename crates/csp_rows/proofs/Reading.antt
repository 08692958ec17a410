-- Steps that are read of the bytes of their targets.
use Rattle.std.proofs.Common.{◌≡◌, ℕ, List, [], ◌∷◌, Option, Some, Contains, refl, sym, ap₂, subst, ◌∙◌}
use Rattle.std.specs.Prelude.{IsTrue}
use Rattle.std.specs.List.{AllByRecursion}
use Rattle.theory_syntax.specs.Value.{Action}
use Rattle.theory_syntax.specs.Process.{Process, Script}
use Rattle.theory_syntax.proofs.Members.{contains_here, contains_there}
use Rattle.theory_semantics.specs.Meaning.Limits.{fits}
use Rattle.theory_semantics.specs.Meaning.Stepping.{Steps}
use Rattle.theory_spelling.specs.Reading.{term_of}
use Rattle.csp_rows.specs.declared.changes.Change.{Change}
use Rattle.csp_rows.specs.declared.changes.Run.{Run}
use Rattle.csp_rows.specs.declared.numbers.ActionId.{ActionId}
use Rattle.csp_rows.specs.declared.step.Step.{Step}
use Rattle.csp_rows.specs.Numbering.{Numbering, action_at}
use Rattle.csp_rows.specs.Places.{IsTargetOf}
use Rattle.csp_rows.specs.Runs.{run_of}
use Rattle.csp_rows.specs.ByOrder.{changes_at}
use Rattle.csp_rows.specs.InOrder.{offers_beside_tau, offers_of}
use Rattle.csp_rows.specs.Numbers.{AreAllNumbered}
use Rattle.csp_rows.specs.declared.numbers.ActionId.TheVariants as by_number
use Rattle.csp_rows.specs.Row.{Row}
use Rattle.csp_rows.specs.InBytes.{AreReadAs, AreTargetsOf}
use Rattle.csp_rows.specs.Stepped.{AreStepsOfRow, RowSteps}
use Rattle.csp_rows.specs.Targets.{step_told, steps_told, target_of}
use Rattle.csp_rows.proofs.Covering.{some_changes}
use Rattle.csp_rows.proofs.Leading.{spells}

module _ {A : Type 0} (z : Numbering) (script : Script) (d : RowSteps A) (are : AreStepsOfRow z script d) where
  abbrev r : Row A
  r = d.row

  abbrev pool : List Change
  pool = d.pool

  abbrev sorted : List Step
  sorted = d.sorted

  -- one step, read of its bytes
  one_read : (s : Step) (bytes : List ℕ) (t : Action × Process) → Contains sorted s → IsTrue (fits (target_of z r pool s)) → IsTargetOf r.bytes r.places (changes_at pool s.changes) r.parts bytes → action_at z s.action ≡ t.0 → term_of bytes ≡ Some t.1 → t ≡ step_told z r pool s
  one_read s bytes t has fit made act read =
      let found = some_changes z script d are s has in
      let here : IsTargetOf r.bytes r.places (run_of pool found.0) r.parts bytes = subst (λ (o : Option Run). IsTargetOf r.bytes r.places (changes_at pool o) r.parts bytes) found.1.is made in
      let told = spells z script r are.by_parts pool s found.0 found.1 bytes fit here in
      let same : Some t.1 ≡ Some (target_of z r pool s) = sym read ∙ told.read in
      let target : t.1 ≡ target_of z r pool s = cc same in
      ap₂ (λ (x : Action) (u : Process). (x, u)) (sym act) target

  all_read : (ss : List Step) (targets : List (List ℕ)) (told : Steps) → ((s : Step) → Contains ss s → Contains sorted s) → AllByRecursion (λ s. IsTrue (fits (target_of z r pool s))) ss → AreTargetsOf r pool ss targets → AreReadAs z ss targets told → told ≡ steps_told z r pool ss
  all_read [] [] [] has fit made read = refl
  all_read [] [] (t ∷ ts) has fit made read = absurd read
  all_read [] (bytes ∷ more) told has fit made read = absurd made
  all_read (s ∷ ss) [] told has fit made read = absurd made
  all_read (s ∷ ss) (bytes ∷ more) [] has fit made read = absurd read
  all_read (s ∷ ss) (bytes ∷ more) (t ∷ ts) has fit made read =
      ap₂ (λ (x : Action × Process) (xs : Steps). x ∷ xs) (one_read s bytes t (has s (contains_here s ss)) fit.0 made.0 read.0 read.1)
      (all_read ss more ts (λ x there. has x (contains_there s ss x there)) fit.1 made.1 read.2)

  pub bytes_told : (targets : List (List ℕ)) (told : Steps) → AllByRecursion (λ s. IsTrue (fits (target_of z r pool s))) sorted → AreTargetsOf r pool sorted targets → AreReadAs z sorted targets told → told ≡ steps_told z r pool sorted
  bytes_told targets told fit made read = all_read sorted targets told (λ s has. has) fit made read

-- ---- numbers in offers

offered_beside : (events : ℕ) (actions : List ActionId) → AllByRecursion (AreAllNumbered events) (offers_beside_tau actions)
offered_beside events [] = tt
offered_beside events (by_number.Tau ∷ xs) = tt
offered_beside events (by_number.Tick ∷ xs) = ((tt, tt), tt)
offered_beside events (by_number.Event n ∷ xs) = tt

pub offered_numbered : (events : ℕ) (actions : List ActionId) → AreAllNumbered events actions → AllByRecursion (AreAllNumbered events) (offers_of actions)
offered_numbered events [] all = (all, tt)
offered_numbered events (by_number.Tau ∷ xs) all = offered_beside events xs
offered_numbered events (by_number.Tick ∷ []) all = (all, tt)
offered_numbered events (by_number.Tick ∷ x ∷ xs) all = ((tt, tt), (all, tt))
offered_numbered events (by_number.Event n ∷ xs) all = (all, tt)
