use Rattle.std.proofs.Common.{List, ◌++◌, drop, ap, ◌∙◌, sym, ◌≡◌, ◌+◌, ◌∷◌, suc, add-one, drop-cons}
use Rattle.std.proofs.lemmas.List.{drop_all}
use Rattle.std.specs.String.{string_bytes}
use Rattle.theory_syntax.specs.Expression.{to_expressions}
use Rattle.csp_expression.specs.declared.expr.Expr.{Expr}
use Rattle.csp_expression.specs.Expression.{expression_of, expressions_of}
use Rattle.theory_notation.specs.Told.{all_told, told}
use Rattle.theory_notation.specs.Expressions.{expressions_behind, operand_text}
use Rattle.csp_print.specs.Names.{names_of}
use Rattle.csp_print.proofs.Writing.{comes_to_end, goes_on}
use Rattle.csp_print.proofs.told.push_told_behind.Goals as goal

pub loop-expression-preserved : goal.loop-expression-preserved
loop-expression-preserved g c =
    let expressions = c.args.expressions.now in
    let i = c.loop-expression.expression-index in
    let names = names_of c.args.names.now in
    let mark = c.args.mark.now in
    let least = c.args.least in
    let texts = λ (es : List (Expr g.row.A.Denot)). expressions_behind names mark least (all_told names (to_expressions (expressions_of es))) in
    let first : drop i expressions ≡ c.expression-item.result ∷ drop (i + 1) expressions =
    rw add-one (drop-cons expressions i c.expression-item.result c.loop-expression-test.true ∙ ap (λ e. e ∷ drop (suc i) expressions) (sym c.expression-item.is)) in
    goes_on (string_bytes c.loop-expression.text) (string_bytes c.push_mark.new.text) (string_bytes c.push_told.new.text) mark (operand_text names least (told names (expression_of c.expression-item.result)))
    (texts (drop i expressions)) (texts (drop (i + 1) expressions)) (string_bytes c.args.text.now ++ texts expressions) c.loop-expression.invariant (ap texts first) c.in_ok-push_mark.ensures c.in_ok-push_told.ensures

pub returns : goal.returns
returns g c =
    let expressions = c.args.expressions.now in
    let names = names_of c.args.names.now in
    let texts = λ (es : List (Expr g.row.A.Denot)). expressions_behind names c.args.mark.now c.args.least (all_told names (to_expressions (expressions_of es))) in
    comes_to_end (string_bytes c.args.text.now) (string_bytes c.loop-expression.text) (texts (drop c.loop-expression.expression-index expressions)) (texts expressions)
    c.loop-expression.invariant (ap texts (drop_all c.loop-expression.expression-index expressions c.loop-expression-test.false))
