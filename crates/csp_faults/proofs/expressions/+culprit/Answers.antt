-- What is to blame in each form, and in lists of expressions.
use Rattle.std.proofs.Common.{◌+◌, length, drop, refl, ◌∙◌, ap, ap₂, arith, rules}
use Rattle.std.proofs.lemmas.Option.{slice_get_read}
use Rattle.std.specs.Option.{option_or}
use Rattle.theory_syntax.proofs.Places.{cut}
use Rattle.theory_syntax.specs.Expression.{to_expressions}
use Rattle.theory_semantics.specs.Meaning.Evaluation.{constructor_sets, value}
use Rattle.theory_faults.specs.Culprit.{over_sets}
use Rattle.theory_faults.specs.Expressions.{culprit, first_culprit, given_culprit, outside}
use Rattle.csp_value.specs.Fields.{field_values}
use Rattle.csp_expression.specs.Evaluation.{table_of}
use Rattle.csp_expression.specs.Expression.{expression_of, expressions_of}
use Rattle.csp_expression.proofs.Evaluating.{fields_smaller}
use Rattle.csp_faults.specs.Culprit.{found_of, owner_of}
use Rattle.csp_faults.specs.declared.culprit.Owner.TheVariants as variant
use Rattle.csp_faults.proofs.Forms.{at_apply, at_combine, at_constructor, at_range, at_sequence, at_set, in_form}
use Rattle.csp_faults.proofs.Found.{goes_behind, stays}
use Rattle.csp_faults.proofs.GivenFields.{all, from, one, this}
use Rattle.csp_faults.proofs.expressions.+culprit.Goals as goal

pub expression_culprit-constructor_culprit-requires : goal.expression_culprit-constructor_culprit-requires
expression_culprit-constructor_culprit-requires g t c κs within =
    let less = fields_smaller g.row.A.Denot c.args.expression.now c.in-Constructor.constructor c.in-Constructor.fields c.deref-in-Constructor.result.now c.in-Constructor.is c.deref-in-Constructor.ensures.value in
    (omega (arith, c.decreases, less), search rules)

pub expression_culprit-returns-in_ok-found-in-Apply : goal.expression_culprit-returns-in_ok-found-in-Apply
expression_culprit-returns-in_ok-found-in-Apply g t c =
    let types = table_of c.args.types.now in
    let e = c.args.expression.now in
    let w = c.in-Apply in
    in_form types e c.or_itself.result c.in_ok-why.why c.in-Some.cause c.in_ok-why.ensures c.in-Some.is (found_of c.in_ok-found-in-Apply.found) (culprit types (expression_of w.operand.value)) c.or_itself.ensures
    (c.in_ok-found-in-Apply.ensures ∙ ap (λ x. culprit types (expression_of x)) c.deref.ensures) (at_apply types e w.field-0 w.operand w.is)

pub expression_culprit-returns-in_ok-found-in-Combine : goal.expression_culprit-returns-in_ok-found-in-Combine
expression_culprit-returns-in_ok-found-in-Combine g t c =
    let types = table_of c.args.types.now in
    let e = c.args.expression.now in
    let w = c.in-Combine in
    let first = c.in_ok-first-in-Combine.ensures ∙ ap (λ x. culprit types (expression_of x)) c.deref-in-Combine.ensures in
    in_form types e c.or_itself-in-Combine.result c.in_ok-why.why c.in-Some.cause c.in_ok-why.ensures c.in-Some.is (found_of c.in_ok-found-in-Combine.found)
    (option_or (culprit types (expression_of w.left.value)) (culprit types (expression_of w.right.value))) c.or_itself-in-Combine.ensures
    (c.in_ok-found-in-Combine.ensures ∙ ap₂ (λ o x. option_or o (culprit types (expression_of x))) first c.deref-in-Combine-2.ensures) (at_combine types e w.field-0 w.left w.right w.is)

pub expression_culprit-returns-in_ok-found-in-Range : goal.expression_culprit-returns-in_ok-found-in-Range
expression_culprit-returns-in_ok-found-in-Range g t c =
    let types = table_of c.args.types.now in
    let e = c.args.expression.now in
    let w = c.in-Range in
    let first = c.in_ok-first-in-Range.ensures ∙ ap (λ x. culprit types (expression_of x)) c.deref-in-Range.ensures in
    in_form types e c.or_itself-in-Range.result c.in_ok-why.why c.in-Some.cause c.in_ok-why.ensures c.in-Some.is (found_of c.in_ok-found-in-Range.found)
    (option_or (culprit types (expression_of w.from.value)) (culprit types (expression_of w.to.value))) c.or_itself-in-Range.ensures
    (c.in_ok-found-in-Range.ensures ∙ ap₂ (λ o x. option_or o (culprit types (expression_of x))) first c.deref-in-Range-2.ensures) (at_range types e w.from w.to w.is)

pub expression_culprit-returns-in_ok-found-in-Sequence : goal.expression_culprit-returns-in_ok-found-in-Sequence
expression_culprit-returns-in_ok-found-in-Sequence g t c =
    let types = table_of c.args.types.now in
    let e = c.args.expression.now in
    let items = c.deref-in-Sequence.result.now in
    in_form types e c.or_itself-in-Sequence.result c.in_ok-why.why c.in-Some.cause c.in_ok-why.ensures c.in-Some.is (found_of c.in_ok-found-in-Sequence.found) (first_culprit types (to_expressions (expressions_of items)))
    c.or_itself-in-Sequence.ensures c.in_ok-found-in-Sequence.ensures (at_sequence types e c.in-Sequence.items items c.in-Sequence.is c.deref-in-Sequence.ensures.value)

pub expression_culprit-returns-in_ok-found-in-Set : goal.expression_culprit-returns-in_ok-found-in-Set
expression_culprit-returns-in_ok-found-in-Set g t c =
    let types = table_of c.args.types.now in
    let e = c.args.expression.now in
    let items = c.deref-in-Set.result.now in
    in_form types e c.or_itself-in-Set.result c.in_ok-why.why c.in-Some.cause c.in_ok-why.ensures c.in-Some.is (found_of c.in_ok-found-in-Set.found) (first_culprit types (to_expressions (expressions_of items)))
    c.or_itself-in-Set.ensures c.in_ok-found-in-Set.ensures (at_set types e c.in-Set.members items c.in-Set.is c.deref-in-Set.ensures.value)

pub expression_culprit-returns-in_ok-found-in-Constructor : goal.expression_culprit-returns-in_ok-found-in-Constructor
expression_culprit-returns-in_ok-found-in-Constructor g t c =
    let types = table_of c.args.types.now in
    let e = c.args.expression.now in
    let k = c.in-Constructor.constructor in
    let items = c.deref-in-Constructor.result.now in
    in_form types e c.or_itself-in-Constructor.result c.in_ok-why.why c.in-Some.cause c.in_ok-why.ensures c.in-Some.is (found_of c.in_ok-found-in-Constructor.found)
    (over_sets (constructor_sets types k.0) (λ sets. given_culprit types (owner_of (variant.Constructor k)) 0 (to_expressions (expressions_of items)) sets))
    c.or_itself-in-Constructor.ensures c.in_ok-found-in-Constructor.ensures (at_constructor types e k c.in-Constructor.fields items c.in-Constructor.is c.deref-in-Constructor.ensures.value)

pub first_culprit-returns-then-is_some : goal.first_culprit-returns-then-is_some
first_culprit-returns-then-is_some g t c =
    let types = table_of c.args.types.now in
    let xs = c.args.expressions.now in
    let i = c.loop-expression.expression-index in
    let x = c.expression-item.result in
    stays c.in_ok-found.found c.is_some.result c.is_some.ensures c.if-is_some.true (culprit types (expression_of x)) (first_culprit types (to_expressions (expressions_of (drop (i + 1) xs))))
    (first_culprit types (to_expressions (expressions_of xs))) c.in_ok-found.ensures
    (ap (λ es. first_culprit types (to_expressions (expressions_of es))) (cut xs i x c.loop-expression-test.true c.expression-item.is) ∙ c.loop-expression.invariant)

pub first_culprit-loop-expression-preserved : goal.first_culprit-loop-expression-preserved
first_culprit-loop-expression-preserved g t c =
    let types = table_of c.args.types.now in
    let xs = c.args.expressions.now in
    let i = c.loop-expression.expression-index in
    let x = c.expression-item.result in
    goes_behind c.in_ok-found.found c.is_some.result c.is_some.ensures c.if-is_some.false (culprit types (expression_of x)) (first_culprit types (to_expressions (expressions_of (drop (i + 1) xs))))
    (first_culprit types (to_expressions (expressions_of xs))) c.in_ok-found.ensures
    (ap (λ es. first_culprit types (to_expressions (expressions_of es))) (cut xs i x c.loop-expression-test.true c.expression-item.is) ∙ c.loop-expression.invariant)

pub given_culprit-returns-then-is_some : goal.given_culprit-returns-then-is_some
given_culprit-returns-then-is_some g t c =
    let types = table_of c.args.types.now in
    let owner = owner_of c.args.owner in
    let fields = c.args.fields.now in
    let sets = c.args.sets.now in
    let set = c.in-Some.set.now in
    let i = c.loop-before.before in
    let f = c.index-fields-before.result in
    let look = c.in-Some.ensures.lookup in
    let at = slice_get_read sets (length sets) i set refl look.3.0 look.1 in
    let same = c.in_ok-found.ensures ∙ ap (λ o. option_or o (outside owner i (field_values set) (value types (expression_of f)))) c.in_ok-inner.ensures in
    stays c.in_ok-found.found c.is_some.result c.is_some.ensures c.if-is_some.true (one types owner fields sets i f set) (from types owner fields sets (i + 1)) (all types owner fields sets) same
    (this types owner fields sets i f c.loop-before-test.true c.index-fields-before.is c.loop-before.invariant set at)

pub given_culprit-loop-before-preserved : goal.given_culprit-loop-before-preserved
given_culprit-loop-before-preserved g t c =
    let types = table_of c.args.types.now in
    let owner = owner_of c.args.owner in
    let fields = c.args.fields.now in
    let sets = c.args.sets.now in
    let set = c.in-Some.set.now in
    let i = c.loop-before.before in
    let f = c.index-fields-before.result in
    let look = c.in-Some.ensures.lookup in
    let at = slice_get_read sets (length sets) i set refl look.3.0 look.1 in
    let same = c.in_ok-found.ensures ∙ ap (λ o. option_or o (outside owner i (field_values set) (value types (expression_of f)))) c.in_ok-inner.ensures in
    goes_behind c.in_ok-found.found c.is_some.result c.is_some.ensures c.if-is_some.false (one types owner fields sets i f set) (from types owner fields sets (i + 1)) (all types owner fields sets) same
    (this types owner fields sets i f c.loop-before-test.true c.index-fields-before.is c.loop-before.invariant set at)
