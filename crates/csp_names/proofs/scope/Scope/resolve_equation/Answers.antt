use Rattle.std.proofs.Common.{◌∷◌, [], ap, sym}
use Rattle.theory_checking.specs.Resolving.{as_equation}
use Rattle.theory_checking.specs.Sites.{AsEquation, Used}
use Rattle.csp_parse.specs.Names.{name_of}
use Rattle.csp_names.specs.declared.refusals.KindFault.TheVariants as fault
use Rattle.csp_names.specs.Walks.{ResolvesEquation}
use Rattle.csp_names.proofs.ChannelNames.{call_agrees, call_disagrees, parameters_counted, stops_at}
use Rattle.csp_names.proofs.Walking.{handed_on}
use Rattle.csp_names.proofs.scope.Scope.resolve_equation.Goals as goal

pub returns-in_err-equation : goal.returns-in_err-equation
returns-in_err-equation g c =
    handed_on (ResolvesEquation c.args.self.now c.args.bound.now c.args.arguments (name_of c.args.name)) c.from_residual.result c.in_err-equation.field-0.0 c.from_residual.ensures (λ env stands knows. c.in_err-equation.ensures env stands c.args.arguments)

pub returns-then-counts_agree : goal.returns-then-counts_agree
returns-then-counts_agree g c env stands knows =
    let n = name_of c.args.name in
    let is = c.in_ok-equation.ensures env stands in
    let counted = parameters_counted c.args.self.now env knows n c.in_ok-equation.equation.0 c.parameter_count.result is c.parameter_count.ensures in
    ((call_agrees env n c.args.arguments c.in_ok-equation.equation.0 is c.parameter_count.result counted (sym c.if-counts_agree.ensures), tt), ap as_equation is)

pub returns-else-counts_agree : goal.returns-else-counts_agree
returns-else-counts_agree g c env stands knows =
    let n = name_of c.args.name in
    let is = c.in_ok-equation.ensures env stands in
    let counted = parameters_counted c.args.self.now env knows n c.in_ok-equation.equation.0 c.parameter_count.result is c.parameter_count.ensures in
    stops_at (Used env (AsEquation c.args.arguments) n ∷ []) c.at.result fault.WrongCount c.args.name.place c.at.ensures (call_disagrees env n c.args.arguments c.in_ok-equation.equation.0 is c.parameter_count.result counted (sym c.if-counts_agree.ensures))
