-- What firing a row shows, by the events of these numbers and the terms that bytes spell.
use Rattle.std.specs.Prelude.{◌≡◌, ⊤, ℕ, List, map, Option, Some, None}
use Rattle.std.specs.List.{AllByRecursion}
use Rattle.theory_syntax.specs.Value.{Action, Event}
use Rattle.theory_syntax.specs.Process.{Process, Script}
use Rattle.theory_semantics.specs.Meaning.Expansions.{Fired, FiredLarge, IsFormOf}
use Rattle.csp_rows.specs.Numbering.{IsNumbered}
use Rattle.csp_rows.specs.Numbers.{AreAllNumbered}
use Rattle.csp_packed.specs.Within.{SpellsWithin, term_spelled}
use Rattle.csp_packed.specs.declared.packed_form.PackedForm.{PackedForm}
use Rattle.csp_packed.specs.PackedForm.{form_of}
use Rattle.kept_parts.specs.Places.{action_in}
use Rattle.csp_rows.specs.declared.row.RowForm.{RowForm}
use Rattle.csp_rows.specs.declared.row.RowForm.TheVariants as row
use Rattle.csp_rows.specs.declared.row.RowStep.{RowStep}
use Rattle.csp_rows.specs.Told.{items_of}

-- the action is none by an event beyond so many, and the bytes spell a term within the limits
abbrev pub IsStepReadable : {A : Type 0} → ℕ → RowStep A → Type 0
IsStepReadable events s = IsNumbered events s.action × SpellsWithin s.target.items

abbrev pub IsReadable : {A : Type 0} → ℕ → RowForm A → Type 0
IsReadable events (row.Steps steps offers) = AllByRecursion (IsStepReadable events) steps.items × AllByRecursion (AreAllNumbered events) (items_of offers.items)
IsReadable events row.Large = ⊤
IsReadable events row.Untold = ⊤

-- the step by its action and its target
abbrev pub step_in : {A : Type 0} → List Event → RowStep A → Action × Process
step_in es s = (action_in es s.action, term_spelled s.target.items)

-- the form is the same, where the row tells one
abbrev pub IsPackedAs : {A : Type 0} → List Event → RowForm A → Option (PackedForm A) → Type 0
IsPackedAs es (row.Steps steps offers) (Some form) = form_of form ≡ Fired (map (step_in es) steps.items) (map (λ xs. map (action_in es) xs.items) offers.items)
IsPackedAs es row.Large (Some form) = form_of form ≡ FiredLarge
IsPackedAs es row.Untold None = ⊤
IsPackedAs es _ _ = ⊥

-- the form is exactly what the rules say of the term
abbrev pub IsPackedFormOf : {A : Type 0} → Script → Process → PackedForm A → Type 0
IsPackedFormOf script t form = IsFormOf script t (form_of form)
