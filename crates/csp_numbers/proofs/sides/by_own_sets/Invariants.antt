use Rattle.std.proofs.Common.{◌&&◌, not, take}
use Rattle.csp_events.specs.Testing.{test_of}
use Rattle.csp_numbers.specs.Numbers.{events_of}
use Rattle.csp_numbers.specs.Sides.{AreMarksBy}
use Rattle.csp_numbers.proofs.sides.by_own_sets.Given as goal

abbrev pub invariant-loop-event : goal.invariant-loop-event
invariant-loop-event g l =
    AreMarksBy (events_of (take l.event-index l.events)) (λ e. test_of l.left e && not (test_of l.right e)) (λ e. test_of l.right e && not (test_of l.left e)) (λ e. test_of l.left e && test_of l.right e) l.bits
