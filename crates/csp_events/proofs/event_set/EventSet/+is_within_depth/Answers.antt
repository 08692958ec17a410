-- How deep the events of a set are.
use Rattle.std.proofs.Common.{◌+◌, sym, ◌∙◌, ap, arith}
use Rattle.theory_semantics.specs.Meaning.Limits.{event_set_depth}
use Rattle.csp_events.specs.Events.{event_set_of}
use Rattle.csp_events.proofs.EventForms.{of_enumeration, of_productions}
use Rattle.csp_events.proofs.EventMeasures.{event_depths}
use Rattle.csp_expression.proofs.Measures.{depth_within}
use Rattle.csp_events.proofs.event_set.EventSet.+is_within_depth.Goals as goal

pub returns-in-Enumeration : goal.returns-in-Enumeration
returns-in-Enumeration g t c =
    let is = ap event_set_depth (ap event_set_of c.in-Enumeration.is ∙ of_enumeration g.row.A.Denot c.in-Enumeration.events) ∙ ap (λ es. 1 + event_depths es) (sym c.deref.ensures.value) in
    depth_within c.are_events_within_depth.result (event_depths c.deref.result.now) (event_set_depth (event_set_of c.args.self.now)) c.args.most is (let some = c.if-most-eq0.false in omega arith) c.are_events_within_depth.ensures

pub returns-in-Productions : goal.returns-in-Productions
returns-in-Productions g t c =
    let is = ap event_set_depth (ap event_set_of c.in-Productions.is ∙ of_productions g.row.A.Denot c.in-Productions.events) ∙ ap (λ es. 1 + event_depths es) (sym c.deref-in-Productions.ensures.value) in
    depth_within c.are_events_within_depth-in-Productions.result (event_depths c.deref-in-Productions.result.now) (event_set_depth (event_set_of c.args.self.now)) c.args.most is (let some = c.if-most-eq0.false in omega arith) c.are_events_within_depth-in-Productions.ensures
