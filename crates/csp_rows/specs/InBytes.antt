-- Steps of a row with the bytes of their targets.
use Rattle.std.specs.Prelude.{◌≡◌, ⊤, ℕ, List, [], ◌∷◌, Some}
use Rattle.theory_semantics.specs.Meaning.Stepping.{Steps}
use Rattle.theory_spelling.specs.Reading.{term_of}
use Rattle.csp_rows.specs.declared.changes.Change.{Change}
use Rattle.csp_rows.specs.declared.step.Step.{Step}
use Rattle.csp_rows.specs.Numbering.{Numbering, action_at}
use Rattle.csp_rows.specs.Places.{IsTargetOf}
use Rattle.csp_rows.specs.ByOrder.{changes_at}
use Rattle.csp_rows.specs.Row.{Row}

-- each bytes are what the changes of a step make of those of the row
abbrev pub AreTargetsOf : {A : Type 0} → Row A → List Change → List Step → List (List ℕ) → Type 0
AreTargetsOf r pool [] [] = ⊤
AreTargetsOf r pool (s ∷ ss) (bytes ∷ more) = IsTargetOf r.bytes r.places (changes_at pool s.changes) r.parts bytes × AreTargetsOf r pool ss more
AreTargetsOf r pool _ _ = ⊥

-- each step by the action of its number, and by the process that its target's bytes spell
abbrev pub AreReadAs : Numbering → List Step → List (List ℕ) → Steps → Type 0
AreReadAs z [] [] [] = ⊤
AreReadAs z (s ∷ ss) (bytes ∷ more) (t ∷ ts) = (action_at z s.action ≡ t.0) × (term_of bytes ≡ Some t.1) × AreReadAs z ss more ts
AreReadAs z _ _ _ = ⊥
