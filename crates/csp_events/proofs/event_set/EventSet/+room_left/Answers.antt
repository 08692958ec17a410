-- What the events of a set leave of the room.
use Rattle.std.proofs.Common.{◌+◌, sym, ◌∙◌, ap}
use Rattle.theory_semantics.specs.Meaning.Limits.{event_set_size}
use Rattle.csp_events.specs.Events.{event_set_of}
use Rattle.csp_events.proofs.EventForms.{of_enumeration, of_productions}
use Rattle.csp_events.proofs.EventMeasures.{event_sizes}
use Rattle.csp_expression.proofs.Measures.{size_left}
use Rattle.csp_events.proofs.event_set.EventSet.+room_left.Goals as goal

pub returns-in-Enumeration : goal.returns-in-Enumeration
returns-in-Enumeration g t c =
    let is = ap event_set_size (ap event_set_of c.in-Enumeration.is ∙ of_enumeration g.row.A.Denot c.in-Enumeration.events) ∙ ap (λ es. 1 + event_sizes es) (sym c.deref.ensures.value) in
    size_left c.room_left_by_events.result (event_sizes c.deref.result.now) (event_set_size (event_set_of c.args.self.now)) c.in_ok-rest.rest c.args.room is c.in_ok-rest.ensures.0 c.in_ok-rest.ensures.1 c.room_left_by_events.ensures

pub returns-in-Productions : goal.returns-in-Productions
returns-in-Productions g t c =
    let is = ap event_set_size (ap event_set_of c.in-Productions.is ∙ of_productions g.row.A.Denot c.in-Productions.events) ∙ ap (λ es. 1 + event_sizes es) (sym c.deref-in-Productions.ensures.value) in
    size_left c.room_left_by_events-in-Productions.result (event_sizes c.deref-in-Productions.result.now) (event_set_size (event_set_of c.args.self.now)) c.in_ok-rest.rest c.args.room is c.in_ok-rest.ensures.0 c.in_ok-rest.ensures.1 c.room_left_by_events-in-Productions.ensures
