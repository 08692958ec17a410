-- What firing a row tells of its term.
use Rattle.std.specs.Prelude.{Contains, ℕ, List, map, Option, Some, None}
use Rattle.std.specs.List.{AllByRecursion}
use Rattle.std.specs.declared.cmp.Ordering.{Ordering}
use Rattle.std.specs.declared.vec.Vec.{Vec}
use Rattle.theory_syntax.specs.Process.{Process, Script, Stop}
use Rattle.theory_syntax.specs.Value.{Action}
use Rattle.theory_semantics.specs.Meaning.Expansions.{IsFired}
use Rattle.theory_semantics.specs.Meaning.Stepping.{Steps}
use Rattle.theory_semantics.specs.Meaning.Transitions.{IsLarge}
use Rattle.theory_spelling.specs.Reading.{term_of}
use Rattle.theory_shapes.specs.Shape.{Shape}
use Rattle.theory_shapes.specs.ShapeSteps.{shape_steps}
use Rattle.csp_rows.specs.declared.numbers.ActionId.{ActionId}
use Rattle.csp_rows.specs.declared.numbers.PartId.{PartId}
use Rattle.csp_rows.specs.Numbering.{IsNumbered, Numbering, action_at}
use Rattle.csp_rows.specs.Rows.{row_steps}
use Rattle.csp_rows.specs.InOrder.{offers_in}
use Rattle.csp_rows.specs.Numbers.{AreAllNumbered}
use Rattle.csp_rows.specs.ByParts.{parts_in}
use Rattle.csp_rows.specs.Row.{Row}
use Rattle.csp_rows.specs.Targets.{SpellsTerm}
use Rattle.csp_rows.specs.declared.row.RowByNumbers.{RowByNumbers}
use Rattle.csp_rows.specs.declared.row.RowForm.{RowForm}
use Rattle.csp_rows.specs.declared.row.RowForm.TheVariants as form
use Rattle.csp_rows.specs.declared.row.RowStep.{RowStep}
use Rattle.csp_rows.specs.Lent.{StandsFor, row_with}

-- the term, STOP where there is none
abbrev pub or_stop : Option Process → Process
or_stop None = Stop
or_stop (Some p) = p

-- the term that bytes spell
abbrev pub term_read : List ℕ → Process
term_read bytes = or_stop (term_of bytes)

-- each step by the action of its number, and by the term that its target's bytes spell
abbrev pub step_read : {A : Type 0} → Numbering → RowStep A → Action × Process
step_read z s = (action_at z s.action, term_read s.target.items)

abbrev pub steps_read : {A : Type 0} → Numbering → List (RowStep A) → Steps
steps_read z ss = map (step_read z) ss

abbrev pub items_of : {A X : Type 0} → List (Vec X A) → List (List X)
items_of vs = map (λ v. v.items) vs

-- These steps and acceptances are what firing the term gives. The numbers are those of events, and the bytes of each target
-- spell a term of the script within the limits.
pub record AreFiredOf {A : Type 0} (z : Numbering) (script : Script) (term : Process) (steps : List (RowStep A)) (offers : List (List ActionId)) : Type 0 where
  pub fired : IsFired script term (steps_read z steps) (offers_in z offers)
  pub numbered : AllByRecursion (λ s. IsNumbered z.events s.action) steps
  pub accepted : AllByRecursion (AreAllNumbered z.events) offers
  pub spelled : AllByRecursion (λ s. SpellsTerm script (term_read s.target.items) s.target.items) steps

-- some step of the shape does not leave it as it is
abbrev pub LeavesShape : {A : Type 0} → Numbering → Script → Row A → Type 0
LeavesShape z script r = (x : Action) × Contains (shape_steps script r.shape (parts_in z r) (row_steps z r.parts r.numbers)) (x, None)

-- the form is exactly what the rules say of the row's term
abbrev pub Tells : {A : Type 0} → Numbering → Script → Row A → RowForm A → Type 0
Tells z script r (form.Steps steps offers) = AreFiredOf z script r.term steps.items (items_of offers.items)
Tells z script r form.Large = IsLarge script r.term
Tells z script r form.Untold = LeavesShape z script r

-- so it is whatever the numbers, and the row, stand for
abbrev pub TellsRow : {A : Type 0} → RowByNumbers A → (PartId → PartId → Ordering) → RowForm A → Type 0
TellsRow row order told = (z : Numbering) (script : Script) (term : Process) (shape : Shape) → StandsFor z script term shape row order → Tells z script (row_with term shape row) told
