-- The values so far, one more, or the first cause.
use Rattle.std.proofs.Common.{Result, Err, sym, ◌∙◌, ap, subst, arith}
use Rattle.std.proofs.lemmas.List.{take_all}
use Rattle.std.proofs.lemmas.Result.{err_from_is_err_and}
use Rattle.std.specs.declared.vec.Vec.{Vec}
use Rattle.theory_syntax.specs.Expression.{to_expressions}
use Rattle.theory_semantics.specs.Meaning.Evaluation.{values}
use Rattle.theory_semantics.specs.Meaning.Substitution.{put_expressions}
use Rattle.csp_expression.specs.declared.seen.Seen.{Seen}
use Rattle.csp_expression.specs.Bindings.{bindings_of, puts}
use Rattle.csp_expression.specs.Evaluation.{table_of}
use Rattle.csp_expression.specs.Expression.{expressions_of}
use Rattle.csp_expression.proofs.ExpressionPutting.{put_list}
use Rattle.csp_expression.specs.declared.no_value.NoValue.{NoValue}
use Rattle.csp_settling.specs.Arguments.{SeesAll}
use Rattle.csp_settling.proofs.Seeing.{seen_more, seen_none}
use Rattle.csp_settling.proofs.arguments.argument_values.Goals as goal

pub loop-argument-preserved : goal.loop-argument-preserved
loop-argument-preserved g c =
    seen_more (table_of c.args.types.now) (bindings_of c.args.bindings.now) c.args.arguments.now c.loop-argument.argument-index c.loop-argument.values.items c.argument-item.result c.loop-argument.invariant c.loop-argument-test.true c.argument-item.is
    c.in_ok-look.field-0 c.push.new.self.items c.in_ok-look.ensures c.in_ok-push.ensures.items

pub returns-in_err-look : goal.returns-in_err-look
returns-in_err-look g c =
    let types = table_of c.args.types.now in
    let bs = bindings_of c.args.bindings.now in
    let stop = seen_none types bs c.args.arguments.now c.loop-argument.argument-index c.loop-argument.values.items c.argument-item.result c.loop-argument.invariant c.loop-argument-test.true c.argument-item.is
    c.in_err-look.field-0.0 c.in_err-look.ensures
    in
    let p = err_from_is_err_and c.from_residual.result c.from_residual.ensures.1 in
    let P : Result (Vec (Seen g.row.A.Denot) g.row.A.Denot) NoValue → Type 0 = λ r. SeesAll r (values types (put_expressions bs (to_expressions (expressions_of c.args.arguments.now)))) in
    subst P (sym (p.1 ∙ ap Err p.2)) stop

pub returns : goal.returns
returns g c =
    let types = table_of c.args.types.now in
    let bs = bindings_of c.args.bindings.now in
    let all = take_all c.loop-argument.argument-index c.args.arguments.now (omega arith) in
    ap (values types) (sym (put_list bs c.args.arguments.now)) ∙ ap (λ es. values types (to_expressions (puts bs es))) (sym all) ∙ c.loop-argument.invariant
