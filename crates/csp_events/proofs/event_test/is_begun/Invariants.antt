-- No shorter front is one of the beginnings.
use Rattle.std.proofs.Common.{◌≡◌, ℕ, ◌<◌, false, map}
use Rattle.std.specs.List.{list_any}
use Rattle.theory_syntax.specs.Value.{event_eq}
use Rattle.csp_value.specs.Action.{event_of}
use Rattle.csp_events.proofs.Fronts.{front}
use Rattle.csp_events.proofs.event_test.is_begun.Given as goal

abbrev pub invariant-loop-count : goal.invariant-loop-count
invariant-loop-count g l = (k : ℕ) → k < l.count → list_any (event_eq (front k (event_of l.event))) (map event_of l.beginnings) ≡ false
