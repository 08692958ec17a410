use Rattle.std.proofs.Common.{◌≡◌, ◌-◌}
use Rattle.csp_events.specs.Events.{event_expressions_of}
use Rattle.theory_spelling.specs.Reading.{items_at, event_at}
use Rattle.csp_spell.proofs.Repeating.{with_front}
use Rattle.csp_spell.proofs.read_events.read_each_event.Given as goal

abbrev pub invariant-loop : goal.invariant-loop
invariant-loop g l = with_front (event_expressions_of l.events.items) (items_at (event_at l.depth) (l.count - l.counter) l.rest) ≡ items_at (event_at l.depth) l.count l.fn.bytes
