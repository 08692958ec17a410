-- What the events with the values put in make up.
use Rattle.std.proofs.Common.{◌∙◌, ap}
use Rattle.theory_semantics.specs.Meaning.Substitution.{put_event_set}
use Rattle.csp_expression.specs.Bindings.{bindings_of}
use Rattle.csp_events.specs.Events.{event_set_of}
use Rattle.csp_events.proofs.EventPutting.{put_both, put_enumeration, put_productions}
use Rattle.csp_events.proofs.event_set.EventSet.+put_in.Goals as goal

pub returns-in_ok-put_in_events-in-Enumeration : goal.returns-in_ok-put_in_events-in-Enumeration
returns-in_ok-put_in_events-in-Enumeration g t c =
    put_enumeration (bindings_of c.args.bindings.now) c.args.self.now c.in-Enumeration.events c.in_ok-put_in_events-in-Enumeration.field-0 c.deref.result.now c.in-Enumeration.is c.deref.ensures.value c.in_ok-put_in_events-in-Enumeration.ensures

pub returns-in_ok-put_in_events-in-Productions : goal.returns-in_ok-put_in_events-in-Productions
returns-in_ok-put_in_events-in-Productions g t c =
    put_productions (bindings_of c.args.bindings.now) c.args.self.now c.in-Productions.events c.in_ok-put_in_events-in-Productions.field-0 c.deref-in-Productions.result.now c.in-Productions.is c.deref-in-Productions.ensures.value c.in_ok-put_in_events-in-Productions.ensures

pub returns-in_ok-right-in-Combine : goal.returns-in_ok-right-in-Combine
returns-in_ok-right-in-Combine g t c =
    let bs = bindings_of c.args.bindings.now in
    put_both bs c.args.self.now c.in-Combine.operator c.in-Combine.left c.in-Combine.right c.in_ok-left-in-Combine.left c.in_ok-right-in-Combine.right c.in-Combine.is
    (ap event_set_of c.in_ok-left-in-Combine.ensures.ok ∙ c.in_ok-put_in-in-Combine.ensures ∙ ap (λ e. put_event_set bs (event_set_of e)) c.deref-in-Combine.ensures)
    (ap event_set_of c.in_ok-right-in-Combine.ensures.ok ∙ c.in_ok-put_in-in-Combine-2.ensures ∙ ap (λ e. put_event_set bs (event_set_of e)) c.deref-in-Combine-2.ensures)
