use Rattle.std.proofs.Common.{◌≡◌, map, take}
use Rattle.csp_events.specs.Testing.{test_of}
use Rattle.csp_numbers.specs.Numbers.{events_of}
use Rattle.csp_numbers.proofs.bits.bits_of.Given as goal

abbrev pub invariant-loop-event : goal.invariant-loop-event
invariant-loop-event g l = l.marks.items ≡ map (test_of l.test) (events_of (take l.event-index l.events))
