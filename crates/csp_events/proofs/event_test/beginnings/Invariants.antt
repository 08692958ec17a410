-- The events so far.
use Rattle.std.proofs.Common.{◌≡◌, Ok, map, take}
use Rattle.theory_semantics.specs.Meaning.Events as events
use Rattle.csp_value.specs.Action.{event_of}
use Rattle.csp_events.specs.Events.{event_expressions_of}
use Rattle.csp_events.specs.Channels.{declaring}
use Rattle.csp_events.proofs.event_test.beginnings.Given as goal

abbrev pub invariant-loop-event : goal.invariant-loop-event
invariant-loop-event g l = events.each (events.beginning_of (declaring l.types l.channels)) (event_expressions_of (take l.event-index l.written)) ≡ Ok (map event_of l.events.items)
