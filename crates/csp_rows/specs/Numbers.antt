-- The order of actions and of steps by numbers.
use Rattle.std.specs.Prelude.{◌≡◌, ◌<◌, ℕ, List}
use Rattle.std.specs.declared.cmp.Ordering.{Ordering}
use Rattle.std.specs.declared.cmp.Ordering.TheVariants.{Less, Equal, Greater}
use Rattle.std.specs.List.{AllByRecursion}
use Rattle.std.specs.Ordering.{nat_cmp, ordering_then}
use Rattle.theory_syntax.specs.Value.{event_cmp}
use Rattle.csp_rows.specs.declared.changes.Change.{Change}
use Rattle.csp_rows.specs.declared.numbers.ActionId.{ActionId}
use Rattle.csp_rows.specs.declared.numbers.ActionId.TheVariants as by_number
use Rattle.csp_rows.specs.declared.numbers.PartId.{PartId}
use Rattle.csp_rows.specs.declared.step.Step.{Step}
use Rattle.csp_rows.specs.Numbering.{IsNumbered, Numbering}
use Rattle.csp_rows.specs.Rows.{row_parts}
use Rattle.csp_rows.specs.Runs.{changes_told}
use Rattle.csp_rows.specs.OrderedTargets.{targets_cmp}

-- events have the order of their numbers
abbrev pub EventsRise : Numbering → Type 0
EventsRise z = (n m : ℕ) → n < z.events → m < z.events → event_cmp (z.event n) (z.event m) ≡ nat_cmp n m

-- these actions are no events beyond those that have a number
abbrev pub AreAllNumbered : ℕ → List ActionId → Type 0
AreAllNumbered events xs = AllByRecursion (λ x. IsNumbered events x) xs

-- tau, then tick, then the events by their numbers
abbrev pub number_cmp : ActionId → ActionId → Ordering
number_cmp by_number.Tau by_number.Tau = Equal
number_cmp by_number.Tau _ = Less
number_cmp by_number.Tick by_number.Tau = Greater
number_cmp by_number.Tick by_number.Tick = Equal
number_cmp by_number.Tick (by_number.Event m) = Less
number_cmp (by_number.Event n) (by_number.Event m) = nat_cmp n.0 m.0
number_cmp (by_number.Event n) _ = Greater

-- two steps, by the number of the action and then by what their changes make of the row
abbrev pub step_number_cmp : Numbering → List PartId → List Change → Step → Step → Ordering
step_number_cmp z row pool s t = ordering_then (number_cmp s.action t.action) (targets_cmp (row_parts z row) (changes_told z pool s.changes) (changes_told z pool t.changes))
