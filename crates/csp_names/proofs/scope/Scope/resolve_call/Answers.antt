use Rattle.csp_parse.specs.Expressions.{expressions_of}
use Rattle.csp_parse.specs.Names.{name_of}
use Rattle.theory_text.specs.Raw.{RawCall}
use Rattle.csp_names.specs.Walks.{ResolvesProcess}
use Rattle.csp_names.proofs.Calls.{arguments_stop, call_resolved, equation_stops}
use Rattle.csp_names.proofs.Walking.{handed_on}
use Rattle.csp_names.proofs.scope.Scope.resolve_call.Goals as goal

pub returns-in_err-equation : goal.returns-in_err-equation
returns-in_err-equation g c =
    let n = name_of c.args.name in
    let es = c.args.arguments.now in
    handed_on (ResolvesProcess c.args.self.now c.args.bound.now c.args.bound.now (RawCall n (expressions_of es))) c.from_residual.result c.in_err-equation.field-0.0 c.from_residual.ensures
    (equation_stops c.args.self.now c.args.bound.now n es c.in_err-equation.field-0.0 c.in_err-equation.ensures)

pub returns-in_err-arguments : goal.returns-in_err-arguments
returns-in_err-arguments g c =
    let n = name_of c.args.name in
    let es = c.args.arguments.now in
    handed_on (ResolvesProcess c.args.self.now c.args.bound.now c.args.bound.now (RawCall n (expressions_of es))) c.from_residual-in_err-arguments.result c.in_err-arguments.field-0.0 c.from_residual-in_err-arguments.ensures
    (arguments_stop c.args.self.now c.args.bound.now n es c.in_ok-equation.equation c.in_err-arguments.field-0.0 c.in_ok-equation.ensures c.in_err-arguments.ensures)

pub returns : goal.returns
returns g c =
    let n = name_of c.args.name in
    let es = c.args.arguments.now in
    call_resolved c.args.self.now c.args.bound.now n es c.in_ok-equation.equation c.in_ok-arguments.arguments c.term.result c.in_ok-equation.ensures c.in_ok-arguments.ensures c.term.ensures.makes c.term.ensures.stops
