-- The spelling of each form of expression, and of one more expression of a list.
use Rattle.std.proofs.Common.{rules, subst, OnOk, ℕ, [], ◌≡◌, ◌∷◌, ◌++◌, sym, ap, ◌∙◌, arith}
use Rattle.theory_syntax.specs.Expression.{Apply, Combine, ConstructorOf, Range, SequenceOf, SetOf, to_expressions}
use Rattle.theory_semantics.specs.Meaning.Limits.{expression_size}
use Rattle.theory_spelling.specs.Spelling.{expression_spelling, list_spelling, number_spelling, value_spelling}
use Rattle.theory_spelling.specs.Packable.{IsPackableExpression}
use Rattle.csp_value.specs.Value.{value_of}
use Rattle.theory_syntax.specs.Operators.{binary_of, unary_of}
use Rattle.csp_expression.specs.Expression.{expression_of, expressions_of}
use Rattle.csp_expression.proofs.ExpressionForms.{of_literal, of_name, of_apply, of_combine, of_sequence, of_set, of_range, of_datatype, of_nametype, of_constructor}
use Rattle.csp_spell.proofs.Pushing.{behind_tag, behind_part, two_parts, put_none, put_one, put_all, item_of, gone_one, gone_all, where_ok, also_ok}
use Rattle.csp_spell.proofs.PushingExpressions.{packable_fields, fields_smaller, spelled_constructor, ranged_constructor, packable_sequence, packable_set, spelled_sequence, spelled_set, sequence_smaller, set_smaller, item_no_greater, ranged_sequence, ranged_set}
use Rattle.theory_spelling.specs.Ranges.{IsInRangeExpression}
use Rattle.csp_spell.proofs.expressions.+push_expression.Goals as goal

pub push_expression-push_expressions-requires : goal.push_expression-push_expressions-requires
push_expression-push_expressions-requires g t c κs within =
    let is = ap expression_of c.in-Sequence.is ∙ of_sequence g.row.A.Denot c.in-Sequence.items ∙ ap (λ es. SequenceOf (to_expressions (expressions_of es))) (sym c.deref-in-Sequence.ensures.value) in
    let smaller = sequence_smaller (expression_of c.args.expression.now) (expressions_of c.deref-in-Sequence.result.now) is in
    (omega arith, (within, packable_sequence (expression_of c.args.expression.now) (expressions_of c.deref-in-Sequence.result.now) is c.requires))

pub push_expression-returns-in_ok-push-in-Sequence : goal.push_expression-returns-in_ok-push-in-Sequence
push_expression-returns-in_ok-push-in-Sequence g t c =
    let is = ap expression_of c.in-Sequence.is ∙ of_sequence g.row.A.Denot c.in-Sequence.items ∙ ap (λ es. SequenceOf (to_expressions (expressions_of es))) (sym c.deref-in-Sequence.ensures.value) in
    record {
      spelled = behind_tag c.push_expressions.result c.args.bytes.now.items c.push-in-Sequence.new.self.items c.push_expressions.new.bytes.items (list_spelling expression_spelling (expressions_of c.deref-in-Sequence.result.now)) (expression_spelling (expression_of c.args.expression.now)) 0x4b c.in_ok-push-in-Sequence.ensures.items
          (spelled_sequence (expression_of c.args.expression.now) (expressions_of c.deref-in-Sequence.result.now) is) c.push_expressions.ensures.spelled;
      range = also_ok c.push_expressions.result c.push_expressions.ensures.range (ranged_sequence (expression_of c.args.expression.now) (expressions_of c.deref-in-Sequence.result.now) is);
    }

pub push_expression-push_expressions-requires-in-Set : goal.push_expression-push_expressions-requires-in-Set
push_expression-push_expressions-requires-in-Set g t c κs within =
    let is = ap expression_of c.in-Set.is ∙ of_set g.row.A.Denot c.in-Set.members ∙ ap (λ es. SetOf (to_expressions (expressions_of es))) (sym c.deref-in-Set.ensures.value) in
    let smaller = set_smaller (expression_of c.args.expression.now) (expressions_of c.deref-in-Set.result.now) is in
    (omega arith, (within, packable_set (expression_of c.args.expression.now) (expressions_of c.deref-in-Set.result.now) is c.requires))

pub push_expression-returns-in_ok-push-in-Set : goal.push_expression-returns-in_ok-push-in-Set
push_expression-returns-in_ok-push-in-Set g t c =
    let is = ap expression_of c.in-Set.is ∙ of_set g.row.A.Denot c.in-Set.members ∙ ap (λ es. SetOf (to_expressions (expressions_of es))) (sym c.deref-in-Set.ensures.value) in
    record {
      spelled = behind_tag c.push_expressions-in-Set.result c.args.bytes.now.items c.push-in-Set.new.self.items c.push_expressions-in-Set.new.bytes.items (list_spelling expression_spelling (expressions_of c.deref-in-Set.result.now)) (expression_spelling (expression_of c.args.expression.now)) 0x4c c.in_ok-push-in-Set.ensures.items
          (spelled_set (expression_of c.args.expression.now) (expressions_of c.deref-in-Set.result.now) is) c.push_expressions-in-Set.ensures.spelled;
      range = also_ok c.push_expressions-in-Set.result c.push_expressions-in-Set.ensures.range (ranged_set (expression_of c.args.expression.now) (expressions_of c.deref-in-Set.result.now) is);
    }

pub push_expression-returns-in_ok-push-in-Literal : goal.push_expression-returns-in_ok-push-in-Literal
push_expression-returns-in_ok-push-in-Literal g t c =
    let is = ap expression_of c.in-Literal.is ∙ of_literal g.row.A.Denot c.in-Literal.value in
    record {
      spelled = behind_tag c.push_value.result c.args.bytes.now.items c.push.new.self.items c.push_value.new.bytes.items (value_spelling (value_of c.in-Literal.value)) (expression_spelling (expression_of c.args.expression.now)) 0x30 c.in_ok-push-in-Literal.ensures.items (ap expression_spelling is) c.push_value.ensures.spelled;
      range = also_ok c.push_value.result c.push_value.ensures.range (λ h. subst IsInRangeExpression (sym is) h);
    }

pub push_expression-returns-in-Name : goal.push_expression-returns-in-Name
push_expression-returns-in-Name g t c =
    let is = ap expression_of c.in-Name.is ∙ of_name g.row.A.Denot c.in-Name.name in
    record {
      spelled = subst (λ e. OnOk c.push_tagged.result (c.push_tagged.new.bytes.items ≡ c.args.bytes.now.items ++ expression_spelling e)) (sym is) c.push_tagged.ensures;
      range = where_ok c.push_tagged.result (subst IsInRangeExpression (sym is) (search rules));
    }

pub push_expression-returns-in-Datatype : goal.push_expression-returns-in-Datatype
push_expression-returns-in-Datatype g t c =
    let is = ap expression_of c.in-Datatype.is ∙ of_datatype g.row.A.Denot c.in-Datatype.datatype in
    record {
      spelled = subst (λ e. OnOk c.push_tagged-in-Datatype.result (c.push_tagged-in-Datatype.new.bytes.items ≡ c.args.bytes.now.items ++ expression_spelling e)) (sym is) c.push_tagged-in-Datatype.ensures;
      range = where_ok c.push_tagged-in-Datatype.result (subst IsInRangeExpression (sym is) (search rules));
    }

pub push_expression-returns-in-Nametype : goal.push_expression-returns-in-Nametype
push_expression-returns-in-Nametype g t c =
    let is = ap expression_of c.in-Nametype.is ∙ of_nametype g.row.A.Denot c.in-Nametype.nametype in
    record {
      spelled = subst (λ e. OnOk c.push_tagged-in-Nametype.result (c.push_tagged-in-Nametype.new.bytes.items ≡ c.args.bytes.now.items ++ expression_spelling e)) (sym is) c.push_tagged-in-Nametype.ensures;
      range = where_ok c.push_tagged-in-Nametype.result (subst IsInRangeExpression (sym is) (search rules));
    }

pub push_expression-returns-in_ok-push-in-Apply : goal.push_expression-returns-in_ok-push-in-Apply
push_expression-returns-in_ok-push-in-Apply g t c =
    let is = ap expression_of c.in-Apply.is ∙ of_apply g.row.A.Denot c.in-Apply.operator c.in-Apply.operand in
    let whole = ap expression_spelling is ∙ ap (λ (k : ℕ). k ∷ expression_spelling (expression_of c.in-Apply.operand.value)) (sym c.unary_tag.ensures) ∙ ap (λ e. c.unary_tag.result ∷ expression_spelling (expression_of e)) (sym c.deref.ensures) in
    record {
      spelled = behind_tag c.push_expression.result c.args.bytes.now.items c.push-in-Apply.new.self.items c.push_expression.new.bytes.items (expression_spelling (expression_of c.deref.result.now)) (expression_spelling (expression_of c.args.expression.now)) c.unary_tag.result c.in_ok-push-in-Apply.ensures.items whole c.push_expression.ensures.spelled;
      range = also_ok c.push_expression.result c.push_expression.ensures.range (λ h. subst IsInRangeExpression (sym is) (subst (λ e. IsInRangeExpression (expression_of e)) c.deref.ensures h));
    }

pub push_expression-returns-in_ok-push_expression-in-Combine : goal.push_expression-returns-in_ok-push_expression-in-Combine
push_expression-returns-in_ok-push_expression-in-Combine g t c =
    let is = ap expression_of c.in-Combine.is ∙ of_combine g.row.A.Denot c.in-Combine.operator c.in-Combine.left c.in-Combine.right in
    let whole = ap expression_spelling is ∙ ap (λ (k : ℕ). k ∷ (expression_spelling (expression_of c.in-Combine.left.value) ++ expression_spelling (expression_of c.in-Combine.right.value))) (sym c.binary_tag.ensures) ∙ ap (λ e. c.binary_tag.result ∷ (expression_spelling (expression_of e) ++ expression_spelling (expression_of c.in-Combine.right.value))) (sym c.deref-in-Combine.ensures) ∙ ap (λ e. c.binary_tag.result ∷ (expression_spelling (expression_of c.deref-in-Combine.result.now) ++ expression_spelling (expression_of e))) (sym c.deref-in-Combine-2.ensures) in
    let first = two_parts c.args.bytes.now.items c.push-in-Combine.new.self.items c.push_expression-in-Combine.new.bytes.items (c.binary_tag.result ∷ []) (expression_spelling (expression_of c.deref-in-Combine.result.now)) c.in_ok-push-in-Combine.ensures.items c.in_ok-push_expression-in-Combine.ensures.spelled in
    record {
      spelled = behind_part c.push_expression-in-Combine-2.result c.args.bytes.now.items c.push_expression-in-Combine.new.bytes.items c.push_expression-in-Combine-2.new.bytes.items (c.binary_tag.result ∷ expression_spelling (expression_of c.deref-in-Combine.result.now)) (expression_spelling (expression_of c.deref-in-Combine-2.result.now)) (expression_spelling (expression_of c.args.expression.now)) first whole c.push_expression-in-Combine-2.ensures.spelled;
      range = also_ok c.push_expression-in-Combine-2.result c.push_expression-in-Combine-2.ensures.range (λ h. subst IsInRangeExpression (sym is) (
        subst (λ e. IsInRangeExpression (expression_of e)) c.deref-in-Combine.ensures c.in_ok-push_expression-in-Combine.ensures.range,
        subst (λ e. IsInRangeExpression (expression_of e)) c.deref-in-Combine-2.ensures h,
      ));
    }

pub push_expression-returns-in_ok-push_expression-in-Range : goal.push_expression-returns-in_ok-push_expression-in-Range
push_expression-returns-in_ok-push_expression-in-Range g t c =
    let is = ap expression_of c.in-Range.is ∙ of_range g.row.A.Denot c.in-Range.from c.in-Range.to in
    let whole = ap expression_spelling is ∙ ap (λ e. 0x4d ∷ (expression_spelling (expression_of e) ++ expression_spelling (expression_of c.in-Range.to.value))) (sym c.deref-in-Range.ensures) ∙ ap (λ e. 0x4d ∷ (expression_spelling (expression_of c.deref-in-Range.result.now) ++ expression_spelling (expression_of e))) (sym c.deref-in-Range-2.ensures) in
    let first = two_parts c.args.bytes.now.items c.push-in-Range.new.self.items c.push_expression-in-Range.new.bytes.items (0x4d ∷ []) (expression_spelling (expression_of c.deref-in-Range.result.now)) c.in_ok-push-in-Range.ensures.items c.in_ok-push_expression-in-Range.ensures.spelled in
    record {
      spelled = behind_part c.push_expression-in-Range-2.result c.args.bytes.now.items c.push_expression-in-Range.new.bytes.items c.push_expression-in-Range-2.new.bytes.items (0x4d ∷ expression_spelling (expression_of c.deref-in-Range.result.now)) (expression_spelling (expression_of c.deref-in-Range-2.result.now)) (expression_spelling (expression_of c.args.expression.now)) first whole c.push_expression-in-Range-2.ensures.spelled;
      range = also_ok c.push_expression-in-Range-2.result c.push_expression-in-Range-2.ensures.range (λ h. subst IsInRangeExpression (sym is) (
        subst (λ e. IsInRangeExpression (expression_of e)) c.deref-in-Range.ensures c.in_ok-push_expression-in-Range.ensures.range,
        subst (λ e. IsInRangeExpression (expression_of e)) c.deref-in-Range-2.ensures h,
      ));
    }

pub push_expressions-push_expression-requires : goal.push_expressions-push_expression-requires
push_expressions-push_expression-requires g t c κs within =
    let size = item_no_greater expression_of c.args.expressions.now c.loop-expression.expression-index c.expression-item.result c.loop-expression-test.true c.expression-item.is in
    (omega arith, (within, item_of IsPackableExpression expression_of c.args.expressions.now c.loop-expression.expression-index c.expression-item.result c.loop-expression-test.true c.expression-item.is c.requires.1))

pub push_expressions-loop-expression-preserved : goal.push_expressions-loop-expression-preserved
push_expressions-loop-expression-preserved g t c = (
  put_one expression_spelling expression_of c.args.expressions.now c.args.bytes.now.items c.loop-expression.bytes.items c.push_expression.new.bytes.items c.loop-expression.expression-index c.expression-item.result c.loop-expression-test.true c.expression-item.is c.in_ok-push_expression.ensures.spelled c.loop-expression.invariant.0,
  gone_one IsInRangeExpression expression_of c.args.expressions.now c.loop-expression.expression-index c.expression-item.result c.loop-expression-test.true c.expression-item.is c.in_ok-push_expression.ensures.range c.loop-expression.invariant.1,
)

pub push_expressions-loop-expression-init : goal.push_expressions-loop-expression-init
push_expressions-loop-expression-init g t c = (put_none expression_spelling expression_of c.args.expressions.now c.args.bytes.now.items c.push_length.new.bytes.items c.in_ok-push_length.ensures, tt)

pub push_expressions-returns : goal.push_expressions-returns
push_expressions-returns g t c = record {
  spelled = put_all expression_spelling expression_of c.args.expressions.now c.args.bytes.now.items c.loop-expression.bytes.items c.loop-expression.expression-index c.loop-expression-test.false c.loop-expression.invariant.0;
  range = gone_all IsInRangeExpression expression_of c.args.expressions.now c.loop-expression.expression-index c.loop-expression-test.false c.loop-expression.invariant.1;
}

pub push_expression-push_expression-requires : goal.push_expression-push_expression-requires
push_expression-push_expression-requires g t c κs within =
    let is = ap expression_of c.in-Apply.is ∙ of_apply g.row.A.Denot c.in-Apply.operator c.in-Apply.operand in
    let smaller : expression_size (expression_of c.args.expression.now) ≡ expression_size (Apply (unary_of c.in-Apply.operator) (expression_of c.in-Apply.operand.value)) = ap expression_size is in
    let same = ap (λ e. expression_size (expression_of e)) c.deref.ensures in
    let told : IsPackableExpression (Apply (unary_of c.in-Apply.operator) (expression_of c.in-Apply.operand.value)) = subst IsPackableExpression is c.requires in
    (omega arith, (within, subst (λ e. IsPackableExpression (expression_of e)) (sym c.deref.ensures) told))

pub push_expression-push_expression-requires-in-Combine : goal.push_expression-push_expression-requires-in-Combine
push_expression-push_expression-requires-in-Combine g t c κs within =
    let is = ap expression_of c.in-Combine.is ∙ of_combine g.row.A.Denot c.in-Combine.operator c.in-Combine.left c.in-Combine.right in
    let smaller : expression_size (expression_of c.args.expression.now) ≡ expression_size (Combine (binary_of c.in-Combine.operator) (expression_of c.in-Combine.left.value) (expression_of c.in-Combine.right.value)) = ap expression_size is in
    let same = ap (λ e. expression_size (expression_of e)) c.deref-in-Combine.ensures in
    let told : IsPackableExpression (Combine (binary_of c.in-Combine.operator) (expression_of c.in-Combine.left.value) (expression_of c.in-Combine.right.value)) = subst IsPackableExpression is c.requires in
    (omega arith, (within, subst (λ e. IsPackableExpression (expression_of e)) (sym c.deref-in-Combine.ensures) told.0))

pub push_expression-push_expression-requires-in-Combine-2 : goal.push_expression-push_expression-requires-in-Combine-2
push_expression-push_expression-requires-in-Combine-2 g t c κs within =
    let is = ap expression_of c.in-Combine.is ∙ of_combine g.row.A.Denot c.in-Combine.operator c.in-Combine.left c.in-Combine.right in
    let smaller : expression_size (expression_of c.args.expression.now) ≡ expression_size (Combine (binary_of c.in-Combine.operator) (expression_of c.in-Combine.left.value) (expression_of c.in-Combine.right.value)) = ap expression_size is in
    let same = ap (λ e. expression_size (expression_of e)) c.deref-in-Combine-2.ensures in
    let told : IsPackableExpression (Combine (binary_of c.in-Combine.operator) (expression_of c.in-Combine.left.value) (expression_of c.in-Combine.right.value)) = subst IsPackableExpression is c.requires in
    (omega arith, (within, subst (λ e. IsPackableExpression (expression_of e)) (sym c.deref-in-Combine-2.ensures) told.1))

pub push_expression-push_expression-requires-in-Range : goal.push_expression-push_expression-requires-in-Range
push_expression-push_expression-requires-in-Range g t c κs within =
    let is = ap expression_of c.in-Range.is ∙ of_range g.row.A.Denot c.in-Range.from c.in-Range.to in
    let smaller : expression_size (expression_of c.args.expression.now) ≡ expression_size (Range (expression_of c.in-Range.from.value) (expression_of c.in-Range.to.value)) = ap expression_size is in
    let same = ap (λ e. expression_size (expression_of e)) c.deref-in-Range.ensures in
    let told : IsPackableExpression (Range (expression_of c.in-Range.from.value) (expression_of c.in-Range.to.value)) = subst IsPackableExpression is c.requires in
    (omega arith, (within, subst (λ e. IsPackableExpression (expression_of e)) (sym c.deref-in-Range.ensures) told.0))

pub push_expression-push_expression-requires-in-Range-2 : goal.push_expression-push_expression-requires-in-Range-2
push_expression-push_expression-requires-in-Range-2 g t c κs within =
    let is = ap expression_of c.in-Range.is ∙ of_range g.row.A.Denot c.in-Range.from c.in-Range.to in
    let smaller : expression_size (expression_of c.args.expression.now) ≡ expression_size (Range (expression_of c.in-Range.from.value) (expression_of c.in-Range.to.value)) = ap expression_size is in
    let same = ap (λ e. expression_size (expression_of e)) c.deref-in-Range-2.ensures in
    let told : IsPackableExpression (Range (expression_of c.in-Range.from.value) (expression_of c.in-Range.to.value)) = subst IsPackableExpression is c.requires in
    (omega arith, (within, subst (λ e. IsPackableExpression (expression_of e)) (sym c.deref-in-Range-2.ensures) told.1))

pub push_expression-push_expressions-requires-in-Constructor : goal.push_expression-push_expressions-requires-in-Constructor
push_expression-push_expressions-requires-in-Constructor g t c κs within =
    let is = ap expression_of c.in-Constructor.is ∙ of_constructor g.row.A.Denot c.in-Constructor.constructor c.in-Constructor.fields ∙ ap (λ es. ConstructorOf c.in-Constructor.constructor.0 (to_expressions (expressions_of es))) (sym c.deref-in-Constructor.ensures.value) in
    let smaller = fields_smaller (expression_of c.args.expression.now) c.in-Constructor.constructor.0 (expressions_of c.deref-in-Constructor.result.now) is in
    (omega arith, (within, packable_fields (expression_of c.args.expression.now) c.in-Constructor.constructor.0 (expressions_of c.deref-in-Constructor.result.now) is c.requires))

pub push_expression-returns-in_ok-push_number-in-Constructor : goal.push_expression-returns-in_ok-push_number-in-Constructor
push_expression-returns-in_ok-push_number-in-Constructor g t c =
    let is = ap expression_of c.in-Constructor.is ∙ of_constructor g.row.A.Denot c.in-Constructor.constructor c.in-Constructor.fields ∙ ap (λ es. ConstructorOf c.in-Constructor.constructor.0 (to_expressions (expressions_of es))) (sym c.deref-in-Constructor.ensures.value) in
    let k = c.in-Constructor.constructor.0 in
    let fields = expressions_of c.deref-in-Constructor.result.now in
    let first = two_parts c.args.bytes.now.items c.push-in-Constructor.new.self.items c.push_number.new.bytes.items (0x51 ∷ []) (number_spelling k) c.in_ok-push-in-Constructor.ensures.items c.in_ok-push_number-in-Constructor.ensures in
    record {
      spelled = behind_part c.push_expressions-in-Constructor.result c.args.bytes.now.items c.push_number.new.bytes.items c.push_expressions-in-Constructor.new.bytes.items (0x51 ∷ number_spelling k) (list_spelling expression_spelling fields) (expression_spelling (expression_of c.args.expression.now)) first
          (spelled_constructor (expression_of c.args.expression.now) k fields is) c.push_expressions-in-Constructor.ensures.spelled;
      range = also_ok c.push_expressions-in-Constructor.result c.push_expressions-in-Constructor.ensures.range (ranged_constructor (expression_of c.args.expression.now) k fields is (search rules));
    }
