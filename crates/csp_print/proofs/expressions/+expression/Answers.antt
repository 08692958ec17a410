-- Each part is put one after the other, and is smaller than what it is a part of.
use Rattle.std.proofs.Common.{List, ◌++◌, drop, ap, ◌∙◌, sym, ◌≡◌, ◌+◌, ◌*◌, ◌<◌, ◌∷◌, suc, arith, rules, add-one, drop-cons}
use Rattle.std.proofs.lemmas.List.{drop_all}
use Rattle.std.specs.Prelude.{codes}
use Rattle.std.specs.String.{string_bytes}
use Rattle.theory_search.specs.Printing.{name_at}
use Rattle.theory_syntax.specs.Expression.{ConstructorOf, SequenceOf, SetOf, to_expressions}
use Rattle.theory_semantics.specs.Meaning.Limits.{expression_size, expressions_size}
use Rattle.csp_expression.specs.declared.expr.Expr.{Expr}
use Rattle.csp_expression.specs.Expression.{expression_of, expressions_of}
use Rattle.csp_expression.proofs.ExpressionForms.{of_constructor, of_sequence, of_set}
use Rattle.theory_notation.specs.Expressions.{expression_text, expressions_behind, operand_text}
use Rattle.csp_print.specs.Names.{names_of}
use Rattle.csp_print.proofs.Writing.{alike, behind, comes_to_end, goes_on}
use Rattle.csp_print.proofs.ExpressionTexts.{part_size, with_fields, without_fields}
use Rattle.csp_print.proofs.expressions.+expression.Goals as goal

pub push_constructor-returns : goal.push_constructor-returns
push_constructor-returns g t c =
    let names = names_of c.args.names.now in
    let fields = c.args.fields.now in
    let r = c.push_mark-2.result in
    let all = string_bytes c.push_mark-2.new.text in
    let k = name_at names.constructors c.args.constructor.0 in
    let inner = expressions_behind names (codes ".") 6 (to_expressions (expressions_of fields)) in
    alike r (string_bytes c.args.text.now) all _ _ (with_fields names c.args.constructor.0 fields (sym c.is_empty.ensures ∙ c.if-is_empty.false))
    (behind r (string_bytes c.args.text.now) (string_bytes c.push_mark.new.text) all (codes "(") (k ++ (inner ++ codes ")")) c.in_ok-push_mark.ensures
    (behind r (string_bytes c.push_mark.new.text) (string_bytes c.push_constructor-2.new.text) all k (inner ++ codes ")") c.in_ok-push_constructor.ensures
    (behind r (string_bytes c.push_constructor-2.new.text) (string_bytes c.push_expressions_behind.new.text) all inner (codes ")") c.in_ok-push_expressions_behind.ensures c.push_mark-2.ensures)))

pub push_items-push_operand-requires : goal.push_items-push_operand-requires
push_items-push_operand-requires g t c =
    let size = ap (λ (es : List (Expr g.row.A.Denot)). expressions_size (to_expressions (expressions_of es))) c.in-Some.ensures.cases.0 in
    let smaller : 5 * expression_size (expression_of c.in-Some.first.now) + 1 < 5 * expressions_size (to_expressions (expressions_of c.args.items.now)) + 3 = omega (arith, size) in
    search rules

pub push_items-push_expressions_behind-requires : goal.push_items-push_expressions_behind-requires
push_items-push_expressions_behind-requires g t c =
    let size = ap (λ (es : List (Expr g.row.A.Denot)). expressions_size (to_expressions (expressions_of es))) c.in-Some.ensures.cases.0 in
    let smaller : 5 * expressions_size (to_expressions (expressions_of c.in-Some.others.now)) + 2 < 5 * expressions_size (to_expressions (expressions_of c.args.items.now)) + 3 = omega (arith, size) in
    search rules

pub push_expressions_behind-push_operand-requires : goal.push_expressions_behind-push_operand-requires
push_expressions_behind-push_operand-requires g t c =
    let one = part_size c.args.expressions.now c.loop-expression.expression-index c.expression-item.result c.loop-expression-test.true c.expression-item.is in
    let smaller : 5 * expression_size (expression_of c.expression-item.result) + 1 < 5 * expressions_size (to_expressions (expressions_of c.args.expressions.now)) + 2 = omega (arith, one) in
    search rules

pub push_expressions_behind-loop-expression-preserved : goal.push_expressions_behind-loop-expression-preserved
push_expressions_behind-loop-expression-preserved g t c =
    let expressions = c.args.expressions.now in
    let i = c.loop-expression.expression-index in
    let names = names_of c.args.names.now in
    let mark = c.args.mark.now in
    let least = c.args.least in
    let texts = λ (es : List (Expr g.row.A.Denot)). expressions_behind names mark least (to_expressions (expressions_of es)) in
    let first : drop i expressions ≡ c.expression-item.result ∷ drop (i + 1) expressions =
    rw add-one (drop-cons expressions i c.expression-item.result c.loop-expression-test.true ∙ ap (λ e. e ∷ drop (suc i) expressions) (sym c.expression-item.is)) in
    goes_on (string_bytes c.loop-expression.text) (string_bytes c.push_mark.new.text) (string_bytes c.push_operand.new.text) mark (operand_text names least (expression_of c.expression-item.result))
    (texts (drop i expressions)) (texts (drop (i + 1) expressions)) (string_bytes c.args.text.now ++ texts expressions) c.loop-expression.invariant (ap texts first) c.in_ok-push_mark.ensures c.in_ok-push_operand.ensures

pub push_expressions_behind-returns : goal.push_expressions_behind-returns
push_expressions_behind-returns g t c =
    let expressions = c.args.expressions.now in
    let texts = λ (es : List (Expr g.row.A.Denot)). expressions_behind (names_of c.args.names.now) c.args.mark.now c.args.least (to_expressions (expressions_of es)) in
    comes_to_end (string_bytes c.args.text.now) (string_bytes c.loop-expression.text) (texts (drop c.loop-expression.expression-index expressions)) (texts expressions)
    c.loop-expression.invariant (ap texts (drop_all c.loop-expression.expression-index expressions c.loop-expression-test.false))

pub push_constructor-returns-then-is_empty : goal.push_constructor-returns-then-is_empty
push_constructor-returns-then-is_empty g t c =
    alike c.push_constructor.result (string_bytes c.args.text.now) (string_bytes c.push_constructor.new.text) _ _
    (without_fields (names_of c.args.names.now) c.args.constructor.0 c.args.fields.now (sym c.is_empty.ensures ∙ c.if-is_empty.true)) c.push_constructor.ensures

pub push_expression-returns-in-Sequence : goal.push_expression-returns-in-Sequence
push_expression-returns-in-Sequence g t c =
    let is = ap expression_of c.in-Sequence.is ∙ of_sequence g.row.A.Denot c.in-Sequence.items in
    let read = ap (λ (es : List (Expr g.row.A.Denot)). SequenceOf (to_expressions (expressions_of es))) c.as_slice.ensures.value in
    alike c.push_sequence.result (string_bytes c.args.text.now) (string_bytes c.push_sequence.new.text) _ _
    (ap (expression_text (names_of c.args.names.now)) (read ∙ sym is)) c.push_sequence.ensures

pub push_expression-returns-in-Set : goal.push_expression-returns-in-Set
push_expression-returns-in-Set g t c =
    let is = ap expression_of c.in-Set.is ∙ of_set g.row.A.Denot c.in-Set.members in
    let read = ap (λ (es : List (Expr g.row.A.Denot)). SetOf (to_expressions (expressions_of es))) c.as_slice-in-Set.ensures.value in
    alike c.push_set.result (string_bytes c.args.text.now) (string_bytes c.push_set.new.text) _ _
    (ap (expression_text (names_of c.args.names.now)) (read ∙ sym is)) c.push_set.ensures

pub push_expression-returns-in-Constructor : goal.push_expression-returns-in-Constructor
push_expression-returns-in-Constructor g t c =
    let is = ap expression_of c.in-Constructor.is ∙ of_constructor g.row.A.Denot c.in-Constructor.constructor c.in-Constructor.fields in
    let read = ap (λ (es : List (Expr g.row.A.Denot)). ConstructorOf c.in-Constructor.constructor.0 (to_expressions (expressions_of es))) c.as_slice-in-Constructor.ensures.value in
    alike c.push_constructor.result (string_bytes c.args.text.now) (string_bytes c.push_constructor.new.text) _ _
    (ap (expression_text (names_of c.args.names.now)) (read ∙ sym is)) c.push_constructor.ensures
