use Rattle.std.proofs.Common.{◌≡◌, ◌++◌, ◌∷◌, []}
use Rattle.std.proofs.lemmas.Result.{err_from_is_err_and}
use Rattle.std.proofs.lemmas.List.{map_push}
use Rattle.csp_expression.specs.Expression.{expression_of, expressions_of}
use Rattle.csp_expression.proofs.ExpressionForms.{of_constructor, of_sequence, of_set}
use Rattle.theory_spelling.specs.Reading.{items_at, expression_at, value_at}
use Rattle.csp_spell.proofs.ReadingExpressions.{constructor_behind, sequence_behind, set_behind}
use Rattle.csp_spell.proofs.Repeating.{goes_on, ends, is_done}
use Rattle.csp_spell.proofs.read_expressions.+read_expression.Goals as goal

pub read_each_expression-returns-in_err-expression : goal.read_each_expression-returns-in_err-expression
read_each_expression-returns-in_err-expression g t c =
    let read = expression_at c.args.depth in
    let e = err_from_is_err_and c.from_residual.result c.from_residual.ensures.1 in
    rw (e.1, e.2) (ends read (items_at read c.args.count c.args.bytes.now) c.in_err-expression.field-0.0 (expressions_of c.loop.expressions.items) c.args.count c.loop.counter c.loop.rest.now c.loop-test.true c.in_err-expression.ensures c.loop.invariant)

pub read_each_expression-loop-preserved : goal.read_each_expression-loop-preserved
read_each_expression-loop-preserved g t c =
    let read = expression_at c.args.depth in
    let x = c.in_ok-expression.expression in
    let e : expressions_of c.push.new.self.items ≡ expressions_of c.loop.expressions.items ++ expression_of x ∷ [] = rw c.in_ok-push.ensures.items (map_push _ c.loop.expressions.items x) in
    rw e (goes_on read (items_at read c.args.count c.args.bytes.now) (expressions_of c.loop.expressions.items) c.args.count c.loop.counter c.loop.rest.now (expression_of x) c.in_ok-expression.after.now c.loop-test.true c.in_ok-expression.ensures c.loop.invariant)

pub read_each_expression-returns : goal.read_each_expression-returns
read_each_expression-returns g t c =
    let read = expression_at c.args.depth in
    is_done read (items_at read c.args.count c.args.bytes.now) (expressions_of c.loop.expressions.items) c.args.count c.loop.counter c.loop.rest.now c.loop-test.false c.loop.invariant

pub read_tagged-returns-in_ok-items-in-75 : goal.read_tagged-returns-in_ok-items-in-75
read_tagged-returns-in_ok-items-in-75 g t c =
    let items = c.in_ok-items-in-75.items in
    sequence_behind (value_at c.args.depth) (expression_at c.args.depth) c.args.tag c.args.bytes.now (expressions_of items.items) c.in_ok-items-in-75.rest.now _ c.in-75.is c.in_ok-items-in-75.ensures (of_sequence g.row.A.Denot items)

pub read_tagged-returns-in_ok-members-in-76 : goal.read_tagged-returns-in_ok-members-in-76
read_tagged-returns-in_ok-members-in-76 g t c =
    let members = c.in_ok-members-in-76.members in
    set_behind (value_at c.args.depth) (expression_at c.args.depth) c.args.tag c.args.bytes.now (expressions_of members.items) c.in_ok-members-in-76.rest.now _ c.in-76.is c.in_ok-members-in-76.ensures (of_set g.row.A.Denot members)

pub read_tagged-returns-in_ok-fields-in-81 : goal.read_tagged-returns-in_ok-fields-in-81
read_tagged-returns-in_ok-fields-in-81 g t c =
    let fields = c.in_ok-fields-in-81.fields in
    constructor_behind (value_at c.args.depth) (expression_at c.args.depth) c.args.tag c.args.bytes.now c.in_ok-constructor-in-81.constructor c.in_ok-constructor-in-81.rest.now (expressions_of fields.items) c.in_ok-fields-in-81.rest.now _ c.in-81.is c.in_ok-constructor-in-81.ensures c.in_ok-fields-in-81.ensures (of_constructor g.row.A.Denot _ fields)
