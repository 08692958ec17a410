-- An equation and an assertion are resolved and added.
use Rattle.std.proofs.Common.{map, refl}
use Rattle.csp_lex.specs.Places.{place_of}
use Rattle.csp_parse.specs.Declarations.{declaration_of, property_of}
use Rattle.csp_parse.specs.Names.{name_of}
use Rattle.csp_parse.specs.Processes.{process_of}
use Rattle.csp_names.proofs.Walking.{handed_on}
use Rattle.csp_kinds.specs.Items.{AddsItem}
use Rattle.csp_kinds.proofs.Adding.{equation_stops, equation_added, assertion_stops, assertion_added, written_assertion, written_equation}
use Rattle.csp_kinds.proofs.items.Items.add.Goals as goal

pub returns-in_err-equation-in-Equation : goal.returns-in_err-equation-in-Equation
returns-in_err-equation-in-Equation g c =
    let d = declaration_of c.args.declaration.now in
    let here = c.in-Equation in
    let ns = c.deref.result.now in
    let p = c.deref-in-Equation.result.now in
    let is = written_equation c.args.declaration.now here.name here.parameters here.body ns p here.is c.deref.ensures.value c.deref-in-Equation.ensures in
    let e = c.in_err-equation-in-Equation.field-0.0 in
    handed_on (AddsItem c.args.scope.now c.args.bound.now c.resolve_definition.new.bound d c.args.self.now c.args.self.now) c.from_residual.result e c.from_residual.ensures
    (equation_stops c.args.scope.now c.args.bound.now c.resolve_definition.new.bound d c.args.self.now c.args.self.now (name_of here.name) (map name_of ns) (process_of p) is e c.in_err-equation-in-Equation.ensures)

pub returns-in_err-assertion-in-Assertion : goal.returns-in_err-assertion-in-Assertion
returns-in_err-assertion-in-Assertion g c =
    let d = declaration_of c.args.declaration.now in
    let here = c.in-Assertion in
    let p = c.deref-in-Assertion.result.now in
    let is = written_assertion c.args.declaration.now here.place here.negated here.property here.implementation p here.is c.deref-in-Assertion.ensures in
    let e = c.in_err-assertion-in-Assertion.field-0.0 in
    handed_on (AddsItem c.args.scope.now c.args.bound.now c.resolve_assertion.new.bound d c.args.self.now c.args.self.now) c.from_residual-in_err-assertion-in-Assertion.result e c.from_residual-in_err-assertion-in-Assertion.ensures
    (assertion_stops c.args.scope.now c.args.bound.now c.resolve_assertion.new.bound d c.args.self.now c.args.self.now (place_of here.place) here.negated (property_of here.property) (process_of p) is e c.in_err-assertion-in-Assertion.ensures)

pub returns-in_ok-push-in-Equation : goal.returns-in_ok-push-in-Equation
returns-in_ok-push-in-Equation g c =
    let d = declaration_of c.args.declaration.now in
    let here = c.in-Equation in
    let ns = c.deref.result.now in
    let p = c.deref-in-Equation.result.now in
    let is = written_equation c.args.declaration.now here.name here.parameters here.body ns p here.is c.deref.ensures.value c.deref-in-Equation.ensures in
    equation_added c.args.scope.now c.args.bound.now c.resolve_definition.new.bound d c.args.self.now (record { equations = c.push.new.self; assertions = c.args.self.now.assertions }) (name_of here.name) (map name_of ns) (process_of p) is
    c.in_ok-equation-in-Equation.equation c.in_ok-equation-in-Equation.ensures c.in_ok-push-in-Equation.ensures.items refl

pub returns-in_ok-push-in-Assertion : goal.returns-in_ok-push-in-Assertion
returns-in_ok-push-in-Assertion g c =
    let d = declaration_of c.args.declaration.now in
    let here = c.in-Assertion in
    let p = c.deref-in-Assertion.result.now in
    let is = written_assertion c.args.declaration.now here.place here.negated here.property here.implementation p here.is c.deref-in-Assertion.ensures in
    assertion_added c.args.scope.now c.args.bound.now c.resolve_assertion.new.bound d c.args.self.now (record { equations = c.args.self.now.equations; assertions = c.push-in-Assertion.new.self }) (place_of here.place) here.negated (property_of here.property) (process_of p) is
    c.in_ok-assertion-in-Assertion.assertion c.in_ok-assertion-in-Assertion.ensures c.in_ok-push-in-Assertion.ensures.items refl
