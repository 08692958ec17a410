use Rattle.std.proofs.Common.{not, take}
use Rattle.csp_events.specs.Testing.{test_of}
use Rattle.csp_numbers.specs.Numbers.{events_of}
use Rattle.csp_numbers.specs.Sides.{AreMarksBy}
use Rattle.csp_numbers.proofs.sides.by_shared.Given as goal

abbrev pub invariant-loop-event : goal.invariant-loop-event
invariant-loop-event g l = AreMarksBy (events_of (take l.event-index l.events)) (λ e. not (test_of l.shared e)) (λ e. not (test_of l.shared e)) (test_of l.shared) l.bits
