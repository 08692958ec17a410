-- What is to blame in an argument, or that there are others than parameters.
use Rattle.std.proofs.Common.{slice_get, sym, ◌∙◌, ap}
use Rattle.std.specs.Option.{option_or}
use Rattle.theory_syntax.specs.Expression.{to_expressions}
use Rattle.theory_faults.specs.Expressions.{first_culprit}
use Rattle.theory_faults.specs.Processes.{arguments_misfit}
use Rattle.csp_expression.specs.Expression.{expressions_of}
use Rattle.csp_term.specs.Script.{script_of_parts}
use Rattle.csp_faults.specs.Culprit.{found_of}
use Rattle.csp_faults.proofs.Found.{expressions_count, or_behind}
use Rattle.csp_faults.proofs.own.call_culprit.Goals as goal

pub returns : goal.returns
returns g c =
    let s = script_of_parts c.args.script.now in
    let first = first_culprit s.types (to_expressions (expressions_of c.args.arguments.now)) in
    let equation = slice_get s.equations c.args.equation.0 in
    or_behind c.in_ok-found.found c.is_some.result c.is_some.ensures c.if-is_some.false first (found_of c.arguments_misfit.result) c.in_ok-found.ensures
    ∙ ap (option_or first) (c.arguments_misfit.ensures ∙ ap (λ n. arguments_misfit n equation) (sym (expressions_count c.args.arguments.now)))
