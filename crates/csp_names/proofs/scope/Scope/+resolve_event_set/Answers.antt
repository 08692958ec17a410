-- Each form is resolved by its parts, in order.
use Rattle.std.proofs.Common.{map}
use Rattle.csp_parse.specs.Events.{event_of}
use Rattle.csp_parse.specs.EventSets.{event_set_of}
use Rattle.csp_events.proofs.EventForms as forms
use Rattle.csp_names.specs.Walks.{ResolvesEventSet}
use Rattle.csp_names.proofs.EventSets.{both_resolved, enumeration_resolved, of_combine, of_enumeration, of_productions, productions_resolved, right_stops}
use Rattle.csp_names.proofs.Walking.{handed_on}
use Rattle.csp_names.proofs.scope.Scope.+resolve_event_set.Goals as goal

pub returns-in_err-right-in-Combine : goal.returns-in_err-right-in-Combine
returns-in_err-right-in-Combine g t c =
    let set = c.args.set.now in
    let x = event_set_of c.deref-in-Combine.result.now in
    let y = event_set_of c.deref-in-Combine-2.result.now in
    let is = of_combine set c.in-Combine.operator c.in-Combine.left c.in-Combine.right c.deref-in-Combine.result.now c.deref-in-Combine-2.result.now c.in-Combine.is c.deref-in-Combine.ensures c.deref-in-Combine-2.ensures in
    handed_on (ResolvesEventSet c.args.self.now c.args.bound.now (event_set_of set)) c.from_residual-in_err-right-in-Combine.result c.in_err-right-in-Combine.field-0.0 c.from_residual-in_err-right-in-Combine.ensures
    (right_stops c.args.self.now c.args.bound.now (event_set_of set) c.in-Combine.operator x y is c.in_ok-left-in-Combine.left c.in_err-right-in-Combine.field-0.0 c.in_ok-left-in-Combine.ensures c.in_err-right-in-Combine.ensures)

pub returns-in_ok-events-in-Enumeration : goal.returns-in_ok-events-in-Enumeration
returns-in_ok-events-in-Enumeration g t c =
    let set = c.args.set.now in
    let is = of_enumeration set c.in-Enumeration.events c.deref.result.now c.in-Enumeration.is c.deref.ensures.value in
    enumeration_resolved c.args.self.now c.args.bound.now (event_set_of set) (map event_of c.deref.result.now) c.in_ok-events-in-Enumeration.events _ is c.in_ok-events-in-Enumeration.ensures (forms.of_enumeration g.row.A.Denot c.in_ok-events-in-Enumeration.events)

pub returns-in_ok-events-in-Productions : goal.returns-in_ok-events-in-Productions
returns-in_ok-events-in-Productions g t c =
    let set = c.args.set.now in
    let is = of_productions set c.in-Productions.events c.deref-in-Productions.result.now c.in-Productions.is c.deref-in-Productions.ensures.value in
    productions_resolved c.args.self.now c.args.bound.now (event_set_of set) (map event_of c.deref-in-Productions.result.now) c.in_ok-events-in-Productions.events _ is c.in_ok-events-in-Productions.ensures (forms.of_productions g.row.A.Denot c.in_ok-events-in-Productions.events)

pub returns-in_ok-right-in-Combine : goal.returns-in_ok-right-in-Combine
returns-in_ok-right-in-Combine g t c =
    let set = c.args.set.now in
    let x = event_set_of c.deref-in-Combine.result.now in
    let y = event_set_of c.deref-in-Combine-2.result.now in
    let is = of_combine set c.in-Combine.operator c.in-Combine.left c.in-Combine.right c.deref-in-Combine.result.now c.deref-in-Combine-2.result.now c.in-Combine.is c.deref-in-Combine.ensures c.deref-in-Combine-2.ensures in
    both_resolved c.args.self.now c.args.bound.now (event_set_of set) c.in-Combine.operator x y is c.in_ok-left-in-Combine.left c.in_ok-right-in-Combine.right c.combine_sets.result
    c.in_ok-left-in-Combine.ensures c.in_ok-right-in-Combine.ensures c.combine_sets.ensures.makes c.combine_sets.ensures.stops
