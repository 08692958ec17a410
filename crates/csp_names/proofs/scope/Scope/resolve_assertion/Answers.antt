use Rattle.csp_parse.specs.Declarations.{property_of}
use Rattle.csp_parse.specs.Processes.{process_of}
use Rattle.csp_names.specs.Walks.{ResolvesAssertion}
use Rattle.csp_names.proofs.DefinitionForms.{assertion_resolved, implementation_stops, property_stops}
use Rattle.csp_names.proofs.Walking.{handed_on}
use Rattle.csp_names.proofs.scope.Scope.resolve_assertion.Goals as goal

pub returns-in_err-property : goal.returns-in_err-property
returns-in_err-property g c =
    let a = property_of c.args.property.now in
    let p = process_of c.args.implementation.now in
    let mid = c.resolve_property.new.bound in
    let f = c.in_err-property.field-0.0 in
    handed_on (ResolvesAssertion c.args.self.now c.args.bound.now mid c.args.negated a p) c.from_residual.result f c.from_residual.ensures
    (property_stops c.args.self.now c.args.bound.now c.args.negated a p mid mid f c.in_err-property.ensures)

pub returns-in_err-implementation : goal.returns-in_err-implementation
returns-in_err-implementation g c =
    let a = property_of c.args.property.now in
    let p = process_of c.args.implementation.now in
    let mid = c.resolve_property.new.bound in
    let new = c.resolve_process.new.bound in
    let f = c.in_err-implementation.field-0.0 in
    handed_on (ResolvesAssertion c.args.self.now c.args.bound.now new c.args.negated a p) c.from_residual-in_err-implementation.result f c.from_residual-in_err-implementation.ensures
    (implementation_stops c.args.self.now c.args.bound.now c.args.negated a p mid new c.in_ok-property.property f c.in_ok-property.ensures c.in_err-implementation.ensures)

pub returns : goal.returns
returns g c =
    let a = property_of c.args.property.now in
    let p = process_of c.args.implementation.now in
    assertion_resolved c.args.self.now c.args.bound.now c.args.negated a p c.resolve_property.new.bound c.resolve_process.new.bound c.in_ok-property.property c.in_ok-implementation.implementation c.in_ok-property.ensures c.in_ok-implementation.ensures
