use Rattle.std.proofs.Common.{◌≡◌, drop, ◌++◌}
use Rattle.std.specs.String.{string_bytes}
use Rattle.csp_events.specs.Events.{event_expressions_of}
use Rattle.theory_notation.specs.EventSets.{events_behind}
use Rattle.csp_print.specs.Names.{names_of}
use Rattle.csp_print.proofs.event_sets.push_events_behind.Given as goal

abbrev pub invariant-loop-event : goal.invariant-loop-event
invariant-loop-event g l =
    string_bytes l.text ++ events_behind (names_of l.names) (event_expressions_of (drop l.event-index l.events))
    ≡ string_bytes l.initial.text ++ events_behind (names_of l.names) (event_expressions_of l.events)
