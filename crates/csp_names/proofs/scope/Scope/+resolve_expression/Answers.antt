-- Each form is resolved by its parts, in order.
use Rattle.std.proofs.Common.{◌+◌, ◌*◌, ◌<◌, ◌∙◌, ap, arith, length, refl, rules, sym}
use Rattle.csp_parse.specs.Expressions.{expression_of, expressions_of}
use Rattle.csp_parse.specs.Names.{name_of}
use Rattle.theory_syntax.specs.Expression as pure
use Rattle.theory_syntax.specs.Operators.{binary_of, unary_of}
use Rattle.theory_text.specs.Raw.{RawCombine, RawRange, RawSequence, RawSet, RawUse}
use Rattle.csp_expression.proofs.ExpressionForms as forms
use Rattle.csp_names.specs.declared.refusals.Refused.TheVariants.{Memory as no_room}
use Rattle.csp_names.specs.Walks.{ResolvesExpression, ResolvesExpressions}
use Rattle.csp_names.proofs.Expressions.{all_resolved, apply_resolved, apply_stops, booleans_resolved, constructor_resolved, constructor_stops, fields_stop, items_resolved, items_stop, left_stops, number_resolved, one_resolved, one_stops, right_stops, room_stops, truth_resolved, two_resolved, whole}
use Rattle.csp_names.proofs.Sizes.{part_size, raw_size, raw_sizes}
use Rattle.csp_names.proofs.Walking.{handed_on}
use Rattle.csp_names.proofs.Written as written
use Rattle.csp_names.proofs.scope.Scope.+resolve_expression.Goals as goal

pub resolve_expression-returns-in-Number : goal.resolve_expression-returns-in-Number
resolve_expression-returns-in-Number g t c =
    let e = c.args.expression.now in
    number_resolved c.args.self.now c.args.bound.now (expression_of e) c.in-Number.number c.number_expression.result (written.of_number e c.in-Number.number c.in-Number.is) c.number_expression.ensures.makes c.number_expression.ensures.stops

pub resolve_expression-returns-in-Truth : goal.resolve_expression-returns-in-Truth
resolve_expression-returns-in-Truth g t c =
    let e = c.args.expression.now in
    truth_resolved c.args.self.now c.args.bound.now (expression_of e) c.in-Truth.truth c.truth_expression.result (written.of_truth e c.in-Truth.truth c.in-Truth.is) c.truth_expression.ensures

pub resolve_expression-returns-in-Booleans : goal.resolve_expression-returns-in-Booleans
resolve_expression-returns-in-Booleans g t c =
    let e = c.args.expression.now in
    booleans_resolved c.args.self.now c.args.bound.now (expression_of e) _ (written.of_booleans e c.in-Booleans.is) (forms.of_booleans g.row.A.Denot)

pub resolve_expression-returns-in-Use : goal.resolve_expression-returns-in-Use
resolve_expression-returns-in-Use g t c =
    let e = c.args.expression.now in
    whole c.args.self.now c.args.bound.now (expression_of e) (RawUse (name_of c.in-Use.name)) c.resolve_use.result (written.of_use e c.in-Use.name c.in-Use.is) c.resolve_use.ensures

pub resolve_expression-returns-in_err-operand-in-Apply : goal.resolve_expression-returns-in_err-operand-in-Apply
resolve_expression-returns-in_err-operand-in-Apply g t c =
    let e = c.args.expression.now in
    let is = written.of_apply e c.in-Apply.operator c.in-Apply.operand c.deref.result.now c.in-Apply.is c.deref.ensures in
    handed_on (ResolvesExpression c.args.self.now c.args.bound.now (expression_of e)) c.from_residual.result c.in_err-operand-in-Apply.field-0.0 c.from_residual.ensures
    (apply_stops c.args.self.now c.args.bound.now (expression_of e) (unary_of c.in-Apply.operator) (expression_of c.deref.result.now) c.in_err-operand-in-Apply.field-0.0 is c.in_err-operand-in-Apply.ensures)

pub resolve_expression-returns-in_ok-operand-in-Apply : goal.resolve_expression-returns-in_ok-operand-in-Apply
resolve_expression-returns-in_ok-operand-in-Apply g t c =
    let e = c.args.expression.now in
    let is = written.of_apply e c.in-Apply.operator c.in-Apply.operand c.deref.result.now c.in-Apply.is c.deref.ensures in
    apply_resolved c.args.self.now c.args.bound.now (expression_of e) (unary_of c.in-Apply.operator) (expression_of c.deref.result.now) c.in_ok-operand-in-Apply.operand c.apply.result is c.in_ok-operand-in-Apply.ensures c.apply.ensures.makes c.apply.ensures.stops

pub resolve_expression-returns-in_err-left-in-Combine : goal.resolve_expression-returns-in_err-left-in-Combine
resolve_expression-returns-in_err-left-in-Combine g t c =
    let e = c.args.expression.now in
    let x = expression_of c.deref-in-Combine.result.now in
    let y = expression_of c.in-Combine.right.value in
    let is = written.of_combine e c.in-Combine.operator c.in-Combine.left c.in-Combine.right c.deref-in-Combine.result.now c.in-Combine.right.value c.in-Combine.is c.deref-in-Combine.ensures refl in
    handed_on (ResolvesExpression c.args.self.now c.args.bound.now (expression_of e)) c.from_residual-in_err-left-in-Combine.result c.in_err-left-in-Combine.field-0.0 c.from_residual-in_err-left-in-Combine.ensures
    (left_stops c.args.self.now c.args.bound.now (expression_of e) x y (pure.Combine (binary_of c.in-Combine.operator)) (RawCombine (binary_of c.in-Combine.operator) x y) c.in_err-left-in-Combine.field-0.0 is (λ env. refl) c.in_err-left-in-Combine.ensures)

pub resolve_expression-returns-in_err-right-in-Combine : goal.resolve_expression-returns-in_err-right-in-Combine
resolve_expression-returns-in_err-right-in-Combine g t c =
    let e = c.args.expression.now in
    let x = expression_of c.deref-in-Combine.result.now in
    let y = expression_of c.deref-in-Combine-2.result.now in
    let is = written.of_combine e c.in-Combine.operator c.in-Combine.left c.in-Combine.right c.deref-in-Combine.result.now c.deref-in-Combine-2.result.now c.in-Combine.is c.deref-in-Combine.ensures c.deref-in-Combine-2.ensures in
    handed_on (ResolvesExpression c.args.self.now c.args.bound.now (expression_of e)) c.from_residual-in_err-right-in-Combine.result c.in_err-right-in-Combine.field-0.0 c.from_residual-in_err-right-in-Combine.ensures
    (right_stops c.args.self.now c.args.bound.now (expression_of e) x y (pure.Combine (binary_of c.in-Combine.operator)) (RawCombine (binary_of c.in-Combine.operator) x y) c.in_err-right-in-Combine.field-0.0 c.in_ok-left-in-Combine.left is (λ env. refl) c.in_ok-left-in-Combine.ensures c.in_err-right-in-Combine.ensures)

pub resolve_expression-returns-in_ok-right-in-Combine : goal.resolve_expression-returns-in_ok-right-in-Combine
resolve_expression-returns-in_ok-right-in-Combine g t c =
    let e = c.args.expression.now in
    let x = expression_of c.deref-in-Combine.result.now in
    let y = expression_of c.deref-in-Combine-2.result.now in
    let is = written.of_combine e c.in-Combine.operator c.in-Combine.left c.in-Combine.right c.deref-in-Combine.result.now c.deref-in-Combine-2.result.now c.in-Combine.is c.deref-in-Combine.ensures c.deref-in-Combine-2.ensures in
    two_resolved c.args.self.now c.args.bound.now (expression_of e) x y (pure.Combine (binary_of c.in-Combine.operator)) (RawCombine (binary_of c.in-Combine.operator) x y) c.in_ok-left-in-Combine.left c.in_ok-right-in-Combine.right c.combine.result is (λ env. refl) (λ env. refl) c.in_ok-left-in-Combine.ensures c.in_ok-right-in-Combine.ensures c.combine.ensures.makes c.combine.ensures.stops

pub resolve_expression-returns-in_err-from-in-Range : goal.resolve_expression-returns-in_err-from-in-Range
resolve_expression-returns-in_err-from-in-Range g t c =
    let e = c.args.expression.now in
    let x = expression_of c.deref-in-Range.result.now in
    let y = expression_of c.in-Range.to.value in
    let is = written.of_range e c.in-Range.from c.in-Range.to c.deref-in-Range.result.now c.in-Range.to.value c.in-Range.is c.deref-in-Range.ensures refl in
    handed_on (ResolvesExpression c.args.self.now c.args.bound.now (expression_of e)) c.from_residual-in_err-from-in-Range.result c.in_err-from-in-Range.field-0.0 c.from_residual-in_err-from-in-Range.ensures
    (left_stops c.args.self.now c.args.bound.now (expression_of e) x y pure.Range (RawRange x y) c.in_err-from-in-Range.field-0.0 is (λ env. refl) c.in_err-from-in-Range.ensures)

pub resolve_expression-returns-in_err-to-in-Range : goal.resolve_expression-returns-in_err-to-in-Range
resolve_expression-returns-in_err-to-in-Range g t c =
    let e = c.args.expression.now in
    let x = expression_of c.deref-in-Range.result.now in
    let y = expression_of c.deref-in-Range-2.result.now in
    let is = written.of_range e c.in-Range.from c.in-Range.to c.deref-in-Range.result.now c.deref-in-Range-2.result.now c.in-Range.is c.deref-in-Range.ensures c.deref-in-Range-2.ensures in
    handed_on (ResolvesExpression c.args.self.now c.args.bound.now (expression_of e)) c.from_residual-in_err-to-in-Range.result c.in_err-to-in-Range.field-0.0 c.from_residual-in_err-to-in-Range.ensures
    (right_stops c.args.self.now c.args.bound.now (expression_of e) x y pure.Range (RawRange x y) c.in_err-to-in-Range.field-0.0 c.in_ok-from-in-Range.from is (λ env. refl) c.in_ok-from-in-Range.ensures c.in_err-to-in-Range.ensures)

pub resolve_expression-returns-in_ok-to-in-Range : goal.resolve_expression-returns-in_ok-to-in-Range
resolve_expression-returns-in_ok-to-in-Range g t c =
    let e = c.args.expression.now in
    let x = expression_of c.deref-in-Range.result.now in
    let y = expression_of c.deref-in-Range-2.result.now in
    let is = written.of_range e c.in-Range.from c.in-Range.to c.deref-in-Range.result.now c.deref-in-Range-2.result.now c.in-Range.is c.deref-in-Range.ensures c.deref-in-Range-2.ensures in
    two_resolved c.args.self.now c.args.bound.now (expression_of e) x y pure.Range (RawRange x y) c.in_ok-from-in-Range.from c.in_ok-to-in-Range.to c.range.result is (λ env. refl) (λ env. refl) c.in_ok-from-in-Range.ensures c.in_ok-to-in-Range.ensures c.range.ensures.makes c.range.ensures.stops

pub resolve_expression-returns-in_err-items-in-Sequence : goal.resolve_expression-returns-in_err-items-in-Sequence
resolve_expression-returns-in_err-items-in-Sequence g t c =
    let e = c.args.expression.now in
    let xs = expressions_of c.deref-in-Sequence.result.now in
    let is = written.of_sequence e c.in-Sequence.items c.deref-in-Sequence.result.now c.in-Sequence.is c.deref-in-Sequence.ensures.value in
    handed_on (ResolvesExpression c.args.self.now c.args.bound.now (expression_of e)) c.from_residual-in_err-items-in-Sequence.result c.in_err-items-in-Sequence.field-0.0 c.from_residual-in_err-items-in-Sequence.ensures
    (items_stop c.args.self.now c.args.bound.now (expression_of e) xs pure.SequenceOf (RawSequence xs) c.in_err-items-in-Sequence.field-0.0 is (λ env. refl) c.in_err-items-in-Sequence.ensures)

pub resolve_expression-returns-in_ok-items-in-Sequence : goal.resolve_expression-returns-in_ok-items-in-Sequence
resolve_expression-returns-in_ok-items-in-Sequence g t c =
    let e = c.args.expression.now in
    let xs = expressions_of c.deref-in-Sequence.result.now in
    let is = written.of_sequence e c.in-Sequence.items c.deref-in-Sequence.result.now c.in-Sequence.is c.deref-in-Sequence.ensures.value in
    items_resolved c.args.self.now c.args.bound.now (expression_of e) xs pure.SequenceOf (RawSequence xs) c.in_ok-items-in-Sequence.items _ is (λ env. refl) (λ env. refl) c.in_ok-items-in-Sequence.ensures (forms.of_sequence g.row.A.Denot c.in_ok-items-in-Sequence.items)

pub resolve_expression-returns-in_err-members-in-Set : goal.resolve_expression-returns-in_err-members-in-Set
resolve_expression-returns-in_err-members-in-Set g t c =
    let e = c.args.expression.now in
    let xs = expressions_of c.deref-in-Set.result.now in
    let is = written.of_set e c.in-Set.members c.deref-in-Set.result.now c.in-Set.is c.deref-in-Set.ensures.value in
    handed_on (ResolvesExpression c.args.self.now c.args.bound.now (expression_of e)) c.from_residual-in_err-members-in-Set.result c.in_err-members-in-Set.field-0.0 c.from_residual-in_err-members-in-Set.ensures
    (items_stop c.args.self.now c.args.bound.now (expression_of e) xs pure.SetOf (RawSet xs) c.in_err-members-in-Set.field-0.0 is (λ env. refl) c.in_err-members-in-Set.ensures)

pub resolve_expression-returns-in_ok-members-in-Set : goal.resolve_expression-returns-in_ok-members-in-Set
resolve_expression-returns-in_ok-members-in-Set g t c =
    let e = c.args.expression.now in
    let xs = expressions_of c.deref-in-Set.result.now in
    let is = written.of_set e c.in-Set.members c.deref-in-Set.result.now c.in-Set.is c.deref-in-Set.ensures.value in
    items_resolved c.args.self.now c.args.bound.now (expression_of e) xs pure.SetOf (RawSet xs) c.in_ok-members-in-Set.members _ is (λ env. refl) (λ env. refl) c.in_ok-members-in-Set.ensures (forms.of_set g.row.A.Denot c.in_ok-members-in-Set.members)

pub resolve_expression-returns-in_err-constructor-in-Constructor : goal.resolve_expression-returns-in_err-constructor-in-Constructor
resolve_expression-returns-in_err-constructor-in-Constructor g t c =
    let e = c.args.expression.now in
    let es = c.in-Constructor.fields.items in
    let is = written.of_constructor e c.in-Constructor.name c.in-Constructor.fields es c.in-Constructor.is refl in
    handed_on (ResolvesExpression c.args.self.now c.args.bound.now (expression_of e)) c.from_residual-in_err-constructor-in-Constructor.result c.in_err-constructor-in-Constructor.field-0.0 c.from_residual-in_err-constructor-in-Constructor.ensures
    (constructor_stops c.args.self.now c.args.bound.now (expression_of e) (name_of c.in-Constructor.name) es c.len.result (c.len.ensures ∙ c.in-Constructor.fields.ok.0) is c.in_err-constructor-in-Constructor.field-0.0 c.in_err-constructor-in-Constructor.ensures)

pub resolve_expression-returns-in_err-fields-in-Constructor : goal.resolve_expression-returns-in_err-fields-in-Constructor
resolve_expression-returns-in_err-fields-in-Constructor g t c =
    let e = c.args.expression.now in
    let es = c.deref-in-Constructor.result.now in
    let is = written.of_constructor e c.in-Constructor.name c.in-Constructor.fields es c.in-Constructor.is c.deref-in-Constructor.ensures.value in
    let count = c.len.ensures ∙ c.in-Constructor.fields.ok.0 ∙ ap length (sym c.deref-in-Constructor.ensures.value) in
    handed_on (ResolvesExpression c.args.self.now c.args.bound.now (expression_of e)) c.from_residual-in_err-fields-in-Constructor.result c.in_err-fields-in-Constructor.field-0.0 c.from_residual-in_err-fields-in-Constructor.ensures
    (fields_stop c.args.self.now c.args.bound.now (expression_of e) (name_of c.in-Constructor.name) es c.len.result count is c.in_ok-constructor-in-Constructor.constructor c.in_err-fields-in-Constructor.field-0.0
    c.in_ok-constructor-in-Constructor.ensures c.in_err-fields-in-Constructor.ensures)

pub resolve_expression-returns-in_ok-fields-in-Constructor : goal.resolve_expression-returns-in_ok-fields-in-Constructor
resolve_expression-returns-in_ok-fields-in-Constructor g t c =
    let e = c.args.expression.now in
    let es = c.deref-in-Constructor.result.now in
    let is = written.of_constructor e c.in-Constructor.name c.in-Constructor.fields es c.in-Constructor.is c.deref-in-Constructor.ensures.value in
    let count = c.len.ensures ∙ c.in-Constructor.fields.ok.0 ∙ ap length (sym c.deref-in-Constructor.ensures.value) in
    constructor_resolved c.args.self.now c.args.bound.now (expression_of e) (name_of c.in-Constructor.name) es c.len.result count is c.in_ok-constructor-in-Constructor.constructor c.in_ok-fields-in-Constructor.fields _
    c.in_ok-constructor-in-Constructor.ensures c.in_ok-fields-in-Constructor.ensures (forms.of_constructor g.row.A.Denot c.in_ok-constructor-in-Constructor.constructor c.in_ok-fields-in-Constructor.fields)

pub resolve_expression-resolve_expressions-requires-in-Constructor : goal.resolve_expression-resolve_expressions-requires-in-Constructor
resolve_expression-resolve_expressions-requires-in-Constructor g t c =
    let e = c.args.expression.now in
    let size = ap raw_size (written.of_constructor e c.in-Constructor.name c.in-Constructor.fields c.deref-in-Constructor.result.now c.in-Constructor.is c.deref-in-Constructor.ensures.value) in
    let smaller : 2 * raw_sizes (expressions_of c.deref-in-Constructor.result.now) + 1 < 2 * raw_size (expression_of e) = omega (arith, size) in
    search rules

pub resolve_expression-resolve_expression-requires : goal.resolve_expression-resolve_expression-requires
resolve_expression-resolve_expression-requires g t c =
    let e = c.args.expression.now in
    let size = ap raw_size (written.of_apply e c.in-Apply.operator c.in-Apply.operand c.deref.result.now c.in-Apply.is c.deref.ensures) in
    let smaller : 2 * raw_size (expression_of c.deref.result.now) < 2 * raw_size (expression_of e) = omega (arith, size) in
    search rules

pub resolve_expression-resolve_expression-requires-in-Combine : goal.resolve_expression-resolve_expression-requires-in-Combine
resolve_expression-resolve_expression-requires-in-Combine g t c =
    let e = c.args.expression.now in
    let size = ap raw_size (written.of_combine e c.in-Combine.operator c.in-Combine.left c.in-Combine.right c.deref-in-Combine.result.now c.in-Combine.right.value c.in-Combine.is c.deref-in-Combine.ensures refl) in
    let smaller : 2 * raw_size (expression_of c.deref-in-Combine.result.now) < 2 * raw_size (expression_of e) = omega (arith, size) in
    search rules

pub resolve_expression-resolve_expression-requires-in-Combine-2 : goal.resolve_expression-resolve_expression-requires-in-Combine-2
resolve_expression-resolve_expression-requires-in-Combine-2 g t c =
    let e = c.args.expression.now in
    let size = ap raw_size (written.of_combine e c.in-Combine.operator c.in-Combine.left c.in-Combine.right c.deref-in-Combine.result.now c.deref-in-Combine-2.result.now c.in-Combine.is c.deref-in-Combine.ensures c.deref-in-Combine-2.ensures) in
    let smaller : 2 * raw_size (expression_of c.deref-in-Combine-2.result.now) < 2 * raw_size (expression_of e) = omega (arith, size) in
    search rules

pub resolve_expression-resolve_expression-requires-in-Range : goal.resolve_expression-resolve_expression-requires-in-Range
resolve_expression-resolve_expression-requires-in-Range g t c =
    let e = c.args.expression.now in
    let size = ap raw_size (written.of_range e c.in-Range.from c.in-Range.to c.deref-in-Range.result.now c.in-Range.to.value c.in-Range.is c.deref-in-Range.ensures refl) in
    let smaller : 2 * raw_size (expression_of c.deref-in-Range.result.now) < 2 * raw_size (expression_of e) = omega (arith, size) in
    search rules

pub resolve_expression-resolve_expression-requires-in-Range-2 : goal.resolve_expression-resolve_expression-requires-in-Range-2
resolve_expression-resolve_expression-requires-in-Range-2 g t c =
    let e = c.args.expression.now in
    let size = ap raw_size (written.of_range e c.in-Range.from c.in-Range.to c.deref-in-Range.result.now c.deref-in-Range-2.result.now c.in-Range.is c.deref-in-Range.ensures c.deref-in-Range-2.ensures) in
    let smaller : 2 * raw_size (expression_of c.deref-in-Range-2.result.now) < 2 * raw_size (expression_of e) = omega (arith, size) in
    search rules

pub resolve_expression-resolve_expressions-requires : goal.resolve_expression-resolve_expressions-requires
resolve_expression-resolve_expressions-requires g t c =
    let e = c.args.expression.now in
    let size = ap raw_size (written.of_sequence e c.in-Sequence.items c.deref-in-Sequence.result.now c.in-Sequence.is c.deref-in-Sequence.ensures.value) in
    let smaller : 2 * raw_sizes (expressions_of c.deref-in-Sequence.result.now) + 1 < 2 * raw_size (expression_of e) = omega (arith, size) in
    search rules

pub resolve_expression-resolve_expressions-requires-in-Set : goal.resolve_expression-resolve_expressions-requires-in-Set
resolve_expression-resolve_expressions-requires-in-Set g t c =
    let e = c.args.expression.now in
    let size = ap raw_size (written.of_set e c.in-Set.members c.deref-in-Set.result.now c.in-Set.is c.deref-in-Set.ensures.value) in
    let smaller : 2 * raw_sizes (expressions_of c.deref-in-Set.result.now) + 1 < 2 * raw_size (expression_of e) = omega (arith, size) in
    search rules

pub resolve_expressions-resolve_expression-requires : goal.resolve_expressions-resolve_expression-requires
resolve_expressions-resolve_expression-requires g t c =
    let one = part_size c.args.expressions.now c.loop-expression.expression-index c.expression-item.result c.loop-expression-test.true c.expression-item.is in
    let smaller : 2 * raw_size (expression_of c.expression-item.result) < 2 * raw_sizes (expressions_of c.args.expressions.now) + 1 = omega (arith, one) in
    search rules

pub resolve_expressions-loop-expression-preserved : goal.resolve_expressions-loop-expression-preserved
resolve_expressions-loop-expression-preserved g t c =
    one_resolved c.args.self.now c.args.bound.now c.args.expressions.now c.loop-expression.expression-index c.loop-expression.resolved.items c.push.new.self.items c.expression-item.result c.in_ok-one.one
    c.loop-expression-test.true c.expression-item.is c.loop-expression.invariant c.in_ok-one.ensures c.in_ok-push.ensures.items

pub resolve_expressions-returns-in_err-one : goal.resolve_expressions-returns-in_err-one
resolve_expressions-returns-in_err-one g t c =
    handed_on (ResolvesExpressions c.args.self.now c.args.bound.now (expressions_of c.args.expressions.now)) c.from_residual.result c.in_err-one.field-0.0 c.from_residual.ensures
    (one_stops c.args.self.now c.args.bound.now c.args.expressions.now c.loop-expression.expression-index c.loop-expression.resolved.items c.expression-item.result c.in_err-one.field-0.0
    c.loop-expression-test.true c.expression-item.is c.loop-expression.invariant c.in_err-one.ensures)

pub resolve_expressions-returns-in_err-push : goal.resolve_expressions-returns-in_err-push
resolve_expressions-returns-in_err-push g t c =
    handed_on (ResolvesExpressions c.args.self.now c.args.bound.now (expressions_of c.args.expressions.now)) c.from_residual-in_err-push.result no_room c.from_residual-in_err-push.ensures
    (room_stops c.args.self.now c.args.bound.now c.args.expressions.now no_room refl)

pub resolve_expressions-returns : goal.resolve_expressions-returns
resolve_expressions-returns g t c =
    all_resolved c.args.self.now c.args.bound.now c.args.expressions.now c.loop-expression.expression-index c.loop-expression.resolved c.loop-expression-test.false c.loop-expression.invariant
