use Rattle.std.proofs.Common.{inl, inr, lit<, lit≤}
use Rattle.csp_value.specs.Action.{event_of}
use Rattle.csp_events.specs.Events.{event_expression_of}
use Rattle.csp_term.specs.Script.{script_of_parts}
use Rattle.csp_numbers.proofs.Written.{written_is_listed}
use Rattle.csp_numbers.proofs.written_event.number_of.Goals as goal

pub whole_event-requires : goal.whole_event-requires
whole_event-requires g c = elim g.met.A.AllocHandle.small [ inl e ↦ rw (e.0, e.1) (lit< tt) | inr e ↦ rw (e.0, e.1) (lit< tt) ]

pub number-requires : goal.number-requires
number-requires g c = elim g.met.A.AllocHandle.small [ inl e ↦ rw (e.0, e.1) (lit≤ tt) | inr e ↦ rw (e.0, e.1) (lit≤ tt) ]

pub unreachable-requires : goal.unreachable-requires
unreachable-requires g c =
    let listed = written_is_listed (script_of_parts c.args.script.now) (event_expression_of c.args.written.now) (event_of c.in_ok-event.event) c.args.alphabet.now c.in_ok-event.ensures c.requires in
    absurd (c.in-None.ensures listed)
