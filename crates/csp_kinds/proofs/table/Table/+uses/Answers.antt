-- Forms and lists of expressions, and what they use.
use Rattle.std.proofs.Common.{◌+◌, ◌*◌, ◌<◌, ◌∙◌, refl, sym, ap, arith, rules}
use Rattle.std.specs.Prelude.{◌&&◌, true}
use Rattle.std.specs.List.{list_all}
use Rattle.theory_syntax.specs.Expression.{to_expressions}
use Rattle.theory_semantics.specs.Meaning.Limits.{expression_size, expressions_size}
use Rattle.theory_checking.specs.Sets.{constructors_of}
use Rattle.csp_value.specs.Value.{value_of}
use Rattle.csp_expression.specs.Expression.{expression_of, expressions_of}
use Rattle.csp_expression.proofs.ExpressionForms.{of_combine, of_constructor, of_datatype, of_literal, of_nametype, of_range, of_sequence, of_set}
use Rattle.csp_kinds.specs.Looking.{has_all, has_all_constructors, is_valued}
use Rattle.csp_kinds.proofs.Using.{and_before_false, and_before_true, and_then_false, and_then_true, and_true, expression_within, has_both, has_built, has_each, one_has, one_has_not}
use Rattle.csp_kinds.proofs.table.Table.+uses.Goals as goal

pub has_all-has_all_in-requires : goal.has_all-has_all_in-requires
has_all-has_all_in-requires g t c =
    let size = ap expression_size (ap expression_of c.in-Sequence.is ∙ of_sequence g.row.A.Denot c.in-Sequence.items)
    ∙ ap (λ es. 1 + expressions_size (to_expressions (expressions_of es))) (sym c.deref-in-Sequence.ensures.value) in
    let smaller : 2 * expressions_size (to_expressions (expressions_of c.deref-in-Sequence.result.now)) + 1 < 2 * expression_size (expression_of c.args.expression.now) = omega (arith, size) in
    search rules

pub has_all-has_all_in-requires-in-Set : goal.has_all-has_all_in-requires-in-Set
has_all-has_all_in-requires-in-Set g t c =
    let size = ap expression_size (ap expression_of c.in-Set.is ∙ of_set g.row.A.Denot c.in-Set.members)
    ∙ ap (λ es. 1 + expressions_size (to_expressions (expressions_of es))) (sym c.deref-in-Set.ensures.value) in
    let smaller : 2 * expressions_size (to_expressions (expressions_of c.deref-in-Set.result.now)) + 1 < 2 * expression_size (expression_of c.args.expression.now) = omega (arith, size) in
    search rules

pub has_all-has_all_in-requires-in-Constructor : goal.has_all-has_all_in-requires-in-Constructor
has_all-has_all_in-requires-in-Constructor g t c =
    let size = ap expression_size (ap expression_of c.in-Constructor.is ∙ of_constructor g.row.A.Denot c.in-Constructor.constructor c.in-Constructor.fields)
    ∙ ap (λ es. 1 + expressions_size (to_expressions (expressions_of es))) (sym c.deref-in-Constructor.ensures.value) in
    let smaller : 2 * expressions_size (to_expressions (expressions_of c.deref-in-Constructor.result.now)) + 1 < 2 * expression_size (expression_of c.args.expression.now) = omega (arith, size) in
    search rules

pub has_all_in-has_all-requires : goal.has_all_in-has_all-requires
has_all_in-has_all-requires g t c =
    let one = expression_within c.args.expressions.now c.loop-expression.expression-index c.expression-item.result c.loop-expression-test.true c.expression-item.is in
    let smaller : 2 * expression_size (expression_of c.expression-item.result) < 2 * expressions_size (to_expressions (expressions_of c.args.expressions.now)) + 1 = omega (arith, one) in
    search rules

pub has_all-returns-in-Literal : goal.has_all-returns-in-Literal
has_all-returns-in-Literal g t c =
    c.has_constructors_of.ensures ∙ and_true (list_all (is_valued c.args.self.now.filled.items) (constructors_of (value_of c.in-Literal.value)))
    ∙ ap (has_all c.args.self.now) (sym (ap expression_of c.in-Literal.is ∙ of_literal g.row.A.Denot c.in-Literal.value))

pub has_all-returns-then-has_all : goal.has_all-returns-then-has_all
has_all-returns-then-has_all g t c =
    let s = c.args.self.now in
    let first = c.has_all-in-Combine.ensures ∙ ap (λ x. has_all s (expression_of x)) c.deref-in-Combine.ensures in
    let second = c.has_all-then-has_all.ensures ∙ ap (λ x. has_all s (expression_of x)) c.deref-then-has_all.ensures in
    and_then_true (has_all s (expression_of c.in-Combine.left.value)) (has_all s (expression_of c.in-Combine.right.value)) c.has_all-then-has_all.result second (sym first ∙ c.if-has_all.true)
    ∙ has_both s (expression_of c.in-Combine.left.value) (expression_of c.in-Combine.right.value)
    ∙ ap (has_all s) (sym (ap expression_of c.in-Combine.is ∙ of_combine g.row.A.Denot c.in-Combine.field-0 c.in-Combine.left c.in-Combine.right))

pub has_all-returns-else-has_all : goal.has_all-returns-else-has_all
has_all-returns-else-has_all g t c =
    let s = c.args.self.now in
    let first = c.has_all-in-Combine.ensures ∙ ap (λ x. has_all s (expression_of x)) c.deref-in-Combine.ensures in
    and_then_false (has_all s (expression_of c.in-Combine.left.value)) (has_all s (expression_of c.in-Combine.right.value)) c.has_all-in-Combine.result first (sym first ∙ c.if-has_all.false)
    ∙ has_both s (expression_of c.in-Combine.left.value) (expression_of c.in-Combine.right.value)
    ∙ ap (has_all s) (sym (ap expression_of c.in-Combine.is ∙ of_combine g.row.A.Denot c.in-Combine.field-0 c.in-Combine.left c.in-Combine.right))

pub has_all-returns-then-has_all-2 : goal.has_all-returns-then-has_all-2
has_all-returns-then-has_all-2 g t c =
    let s = c.args.self.now in
    let first = c.has_all-in-Range.ensures ∙ ap (λ x. has_all s (expression_of x)) c.deref-in-Range.ensures in
    let second = c.has_all-then-has_all-2.ensures ∙ ap (λ x. has_all s (expression_of x)) c.deref-then-has_all-2.ensures in
    and_then_true (has_all s (expression_of c.in-Range.from.value)) (has_all s (expression_of c.in-Range.to.value)) c.has_all-then-has_all-2.result second (sym first ∙ c.if-has_all-2.true)
    ∙ has_both s (expression_of c.in-Range.from.value) (expression_of c.in-Range.to.value)
    ∙ ap (has_all s) (sym (ap expression_of c.in-Range.is ∙ of_range g.row.A.Denot c.in-Range.from c.in-Range.to))

pub has_all-returns-else-has_all-2 : goal.has_all-returns-else-has_all-2
has_all-returns-else-has_all-2 g t c =
    let s = c.args.self.now in
    let first = c.has_all-in-Range.ensures ∙ ap (λ x. has_all s (expression_of x)) c.deref-in-Range.ensures in
    and_then_false (has_all s (expression_of c.in-Range.from.value)) (has_all s (expression_of c.in-Range.to.value)) c.has_all-in-Range.result first (sym first ∙ c.if-has_all-2.false)
    ∙ has_both s (expression_of c.in-Range.from.value) (expression_of c.in-Range.to.value)
    ∙ ap (has_all s) (sym (ap expression_of c.in-Range.is ∙ of_range g.row.A.Denot c.in-Range.from c.in-Range.to))

pub has_all-returns-then-has_all_in : goal.has_all-returns-then-has_all_in
has_all-returns-then-has_all_in g t c =
    let s = c.args.self.now in
    let first = c.has_all_in-in-Constructor.ensures ∙ ap (has_each s) c.deref-in-Constructor.ensures.value in
    and_before_true (has_each s c.in-Constructor.fields.items) (is_valued s.filled.items c.in-Constructor.constructor.0) c.has_fields.result c.has_fields.ensures (sym first ∙ c.if-has_all_in.true)
    ∙ has_built s c.in-Constructor.constructor.0 c.in-Constructor.fields.items
    ∙ ap (has_all s) (sym (ap expression_of c.in-Constructor.is ∙ of_constructor g.row.A.Denot c.in-Constructor.constructor c.in-Constructor.fields))

pub has_all-returns-else-has_all_in : goal.has_all-returns-else-has_all_in
has_all-returns-else-has_all_in g t c =
    let s = c.args.self.now in
    let first = c.has_all_in-in-Constructor.ensures ∙ ap (has_each s) c.deref-in-Constructor.ensures.value in
    and_before_false (has_each s c.in-Constructor.fields.items) (is_valued s.filled.items c.in-Constructor.constructor.0) c.has_all_in-in-Constructor.result first (sym first ∙ c.if-has_all_in.false)
    ∙ has_built s c.in-Constructor.constructor.0 c.in-Constructor.fields.items
    ∙ ap (has_all s) (sym (ap expression_of c.in-Constructor.is ∙ of_constructor g.row.A.Denot c.in-Constructor.constructor c.in-Constructor.fields))

pub has_all-returns-in-Sequence : goal.has_all-returns-in-Sequence
has_all-returns-in-Sequence g t c =
    c.has_all_in.ensures ∙ ap (has_each c.args.self.now) c.deref-in-Sequence.ensures.value
    ∙ ap (has_all c.args.self.now) (sym (ap expression_of c.in-Sequence.is ∙ of_sequence g.row.A.Denot c.in-Sequence.items))

pub has_all-returns-in-Set : goal.has_all-returns-in-Set
has_all-returns-in-Set g t c =
    c.has_all_in-in-Set.ensures ∙ ap (has_each c.args.self.now) c.deref-in-Set.ensures.value ∙ ap (has_all c.args.self.now) (sym (ap expression_of c.in-Set.is ∙ of_set g.row.A.Denot c.in-Set.members))

pub has_all-returns-in-Nametype : goal.has_all-returns-in-Nametype
has_all-returns-in-Nametype g t c =
    c.has_value.ensures ∙ and_true (is_valued c.args.self.now.valued.items c.in-Nametype.nametype.0) ∙ and_true (is_valued c.args.self.now.valued.items c.in-Nametype.nametype.0 && true)
    ∙ ap (has_all c.args.self.now) (sym (ap expression_of c.in-Nametype.is ∙ of_nametype g.row.A.Denot c.in-Nametype.nametype))

pub has_all-returns-in-Datatype : goal.has_all-returns-in-Datatype
has_all-returns-in-Datatype g t c =
    c.has_all_constructors.ensures ∙ and_true (has_all_constructors c.args.self.now c.in-Datatype.datatype.0)
    ∙ ap (has_all c.args.self.now) (sym (ap expression_of c.in-Datatype.is ∙ of_datatype g.row.A.Denot c.in-Datatype.datatype))

pub has_all_in-loop-expression-init : goal.has_all_in-loop-expression-init
has_all_in-loop-expression-init g t c = refl

pub has_all_in-loop-expression-preserved : goal.has_all_in-loop-expression-preserved
has_all_in-loop-expression-preserved g t c =
    one_has c.args.self.now c.args.expressions.now c.loop-expression.expression-index c.expression-item.result c.loop-expression-test.true c.expression-item.is
    c.has_all.result c.if-not-has_all.false c.has_all.ensures
    c.loop-expression.invariant

pub has_all_in-returns-then-not-has_all : goal.has_all_in-returns-then-not-has_all
has_all_in-returns-then-not-has_all g t c =
    one_has_not c.args.self.now c.args.expressions.now c.loop-expression.expression-index c.expression-item.result c.loop-expression-test.true
    c.expression-item.is c.has_all.result c.if-not-has_all.true c.has_all.ensures
    c.loop-expression.invariant
