-- Each form asks what its parts ask, in order.
use Rattle.std.proofs.Common.{◌≡◌, ◌≢◌, ◌+◌, ◌*◌, ◌<◌, length, map, refl, ◌∙◌, ap, arith, rules}
use Rattle.theory_syntax.specs.Expression.{Booleans, ConstructorOf, Datatype, Literal, Name, Nametype, to_expressions}
use Rattle.theory_semantics.specs.Meaning.Limits.{expression_size, expressions_size}
use Rattle.theory_checking.specs.Inference.Expressions.{behind_expression, behind_expressions, of_all, of_expression}
use Rattle.csp_value.specs.Value.{value_of}
use Rattle.csp_expression.specs.Evaluation.{table_of}
use Rattle.csp_expression.specs.Expression.{expression_of, expressions_of}
use Rattle.csp_expression.proofs.ExpressionForms as forms
use Rattle.theory_syntax.specs.Operators.{binary_of, unary_of}
use Rattle.csp_inference.specs.Chain.{demand_of}
use Rattle.csp_inference.specs.Equations.{exactly}
use Rattle.csp_inference.specs.Numbering.{names_of, numbering_of}
use Rattle.csp_inference.proofs.Adding.{if_ok}
use Rattle.csp_inference.proofs.Asking.{asks_same, found_at, left_more, left_none, never_asks, not_found}
use Rattle.csp_inference.proofs.AskingArguments.{all_first, asked_all, asked_first, each_all, each_more, unequal}
use Rattle.csp_inference.proofs.AskingExpressions.{asked_apply, asked_combine, asked_expressions, asked_range, asked_sequence, asked_set, behind_asked, of_apply, of_combine, of_constructor, of_range, of_sequence, of_set, part_size, whole}
use Rattle.csp_inference.proofs.Constructing.{constructed, owner_found, row_found, unnumbered, unowned}
use Rattle.csp_inference.proofs.equations.Equations.+ask_expression.Goals as goal

-- ---- parts are smaller

pub ask_expression-ask_expressions-requires : goal.ask_expression-ask_expressions-requires
ask_expression-ask_expressions-requires g t c =
    let size = ap expression_size (of_sequence c.args.expression.now c.in-Sequence.items c.deref-in-Sequence.result.now c.in-Sequence.is c.deref-in-Sequence.ensures.value) in
    let smaller : 4 * expressions_size (to_expressions (expressions_of c.deref-in-Sequence.result.now)) + 1 < 4 * expression_size (expression_of c.args.expression.now) = omega (arith, size) in
    search rules

pub ask_expression-ask_expressions-requires-in-Set : goal.ask_expression-ask_expressions-requires-in-Set
ask_expression-ask_expressions-requires-in-Set g t c =
    let size = ap expression_size (of_set c.args.expression.now c.in-Set.members c.deref-in-Set.result.now c.in-Set.is c.deref-in-Set.ensures.value) in
    let smaller : 4 * expressions_size (to_expressions (expressions_of c.deref-in-Set.result.now)) + 1 < 4 * expression_size (expression_of c.args.expression.now) = omega (arith, size) in
    search rules

pub ask_expressions-ask_expression-requires : goal.ask_expressions-ask_expression-requires
ask_expressions-ask_expression-requires g t c =
    let one = part_size c.args.expressions.now c.loop-expression.expression-index c.expression-item.result c.loop-expression-test.true c.expression-item.is in
    let smaller : 4 * expression_size (expression_of c.expression-item.result) < 4 * expressions_size (to_expressions (expressions_of c.args.expressions.now)) + 1 = omega (arith, one) in
    search rules

pub ask_expression-ask_constructed-requires : goal.ask_expression-ask_constructed-requires
ask_expression-ask_constructed-requires g t c =
    let read = c.deref-in-Constructor.result.now in
    let size = ap expression_size (of_constructor c.args.expression.now c.in-Constructor.constructor c.in-Constructor.fields read c.in-Constructor.is c.deref-in-Constructor.ensures.value) in
    let smaller : 4 * expressions_size (to_expressions (expressions_of c.deref-in-Constructor.result.now)) + 3 < 4 * expression_size (expression_of c.args.expression.now) = omega (arith, size) in
    search rules

pub ask_each-ask_expression-requires : goal.ask_each-ask_expression-requires
ask_each-ask_expression-requires g t c =
    let one = part_size c.args.expressions.now c.loop-index.index c.index-expressions-index.result c.loop-index-test.true c.index-expressions-index.is in
    let smaller : 4 * expression_size (expression_of c.index-expressions-index.result) < 4 * expressions_size (to_expressions (expressions_of c.args.expressions.now)) + 1 = omega (arith, one) in
    search rules

-- ---- an expression

pub ask_expression-returns-in-Literal : goal.ask_expression-returns-in-Literal
ask_expression-returns-in-Literal g t c =
    if_ok c.ask_value.result
    (λ _. whole (table_of c.args.types.now) (numbering_of c.args.numbering.now) (names_of c.args.names.now) (demand_of c.args.kind) c.args.self.now
    (expression_of c.args.expression.now) c.ask_value.new.self (Literal (value_of c.in-Literal.value))
    (ap expression_of c.in-Literal.is ∙ forms.of_literal g.row.A.Denot c.in-Literal.value)) c.ask_value.ensures

pub ask_expression-returns-in-Name : goal.ask_expression-returns-in-Name
ask_expression-returns-in-Name g t c =
    if_ok c.ask_name.result
    (λ _ h. whole (table_of c.args.types.now) (numbering_of c.args.numbering.now) (names_of c.args.names.now) (demand_of c.args.kind) c.args.self.now
    (expression_of c.args.expression.now) c.ask_name.new.self (Name c.in-Name.name.0)
    (ap expression_of c.in-Name.is ∙ forms.of_name g.row.A.Denot c.in-Name.name) (exactly h)) c.ask_name.ensures

pub ask_expression-returns-in_ok-number-in-Apply : goal.ask_expression-returns-in_ok-number-in-Apply
ask_expression-returns-in_ok-number-in-Apply g t c =
    let e = c.args.expression.now in
    if_ok c.ask_expression.result
    (λ _. asked_apply (table_of c.args.types.now) (numbering_of c.args.numbering.now) (names_of c.args.names.now) (demand_of c.args.kind) c.args.self.now
    (expression_of e) c.push_unary.new.self c.ask_expression.new.self (unary_of c.in-Apply.operator) (expression_of c.deref.result.now)
    c.in_ok-number-in-Apply.number.0 (demand_of c.operand.result)
    (of_apply e c.in-Apply.operator c.in-Apply.part c.deref.result.now c.in-Apply.is c.deref.ensures) c.in_ok-number-in-Apply.ensures.number c.operand.ensures c.in_ok-number-in-Apply.ensures.behind)
    c.ask_expression.ensures

pub ask_expression-returns-in_ok-ask_expression-in-Combine : goal.ask_expression-returns-in_ok-ask_expression-in-Combine
ask_expression-returns-in_ok-ask_expression-in-Combine g t c =
    let e = c.args.expression.now in
    if_ok c.ask_expression-in-Combine-2.result
    (λ _. asked_combine (table_of c.args.types.now) (numbering_of c.args.numbering.now) (names_of c.args.names.now) (demand_of c.args.kind) c.args.self.now
    (expression_of e) c.push_binary.new.self c.ask_expression-in-Combine.new.self c.ask_expression-in-Combine-2.new.self (binary_of c.in-Combine.operator)
    (expression_of c.deref-in-Combine.result.now) (expression_of c.deref-in-Combine-2.result.now) c.in_ok-number-in-Combine.number.0
    (demand_of c.left_operand-left_kind.result) (demand_of c.right_operand-right_kind.result)
    (of_combine e c.in-Combine.operator c.in-Combine.left c.in-Combine.right c.deref-in-Combine.result.now c.deref-in-Combine-2.result.now c.in-Combine.is
    c.deref-in-Combine.ensures c.deref-in-Combine-2.ensures) c.in_ok-number-in-Combine.ensures.number c.left_operand-left_kind.ensures
    c.right_operand-right_kind.ensures c.in_ok-number-in-Combine.ensures.behind c.in_ok-ask_expression-in-Combine.ensures)
    c.ask_expression-in-Combine-2.ensures

pub ask_expression-returns-in_ok-ask_expression-in-Range : goal.ask_expression-returns-in_ok-ask_expression-in-Range
ask_expression-returns-in_ok-ask_expression-in-Range g t c =
    let e = c.args.expression.now in
    if_ok c.ask_expression-in-Range-2.result
    (λ _. asked_range (table_of c.args.types.now) (numbering_of c.args.numbering.now) (names_of c.args.names.now) (demand_of c.args.kind) c.args.self.now
    (expression_of e) c.push.new.self c.ask_expression-in-Range.new.self c.ask_expression-in-Range-2.new.self (expression_of c.deref-in-Range.result.now)
    (expression_of c.deref-in-Range-2.result.now)
    (of_range e c.in-Range.from c.in-Range.to c.deref-in-Range.result.now c.deref-in-Range-2.result.now c.in-Range.is c.deref-in-Range.ensures c.deref-in-Range-2.ensures)
    c.in_ok-push-in-Range.ensures c.in_ok-ask_expression-in-Range.ensures)
    c.ask_expression-in-Range-2.ensures

pub ask_expression-returns-in_ok-number-in-Sequence : goal.ask_expression-returns-in_ok-number-in-Sequence
ask_expression-returns-in_ok-number-in-Sequence g t c =
    let e = c.args.expression.now in
    if_ok c.ask_expressions.result
    (λ _. asked_sequence (table_of c.args.types.now) (numbering_of c.args.numbering.now) (names_of c.args.names.now) (demand_of c.args.kind) c.args.self.now
    (expression_of e) c.push_sequence.new.self c.ask_expressions.new.self (to_expressions (expressions_of c.deref-in-Sequence.result.now))
    c.in_ok-number-in-Sequence.number.0
    (of_sequence e c.in-Sequence.items c.deref-in-Sequence.result.now c.in-Sequence.is c.deref-in-Sequence.ensures.value)
    c.in_ok-number-in-Sequence.ensures.number c.in_ok-number-in-Sequence.ensures.behind)
    c.ask_expressions.ensures

pub ask_expression-returns-in_ok-number-in-Set : goal.ask_expression-returns-in_ok-number-in-Set
ask_expression-returns-in_ok-number-in-Set g t c =
    let e = c.args.expression.now in
    if_ok c.ask_expressions-in-Set.result
    (λ _. asked_set (table_of c.args.types.now) (numbering_of c.args.numbering.now) (names_of c.args.names.now) (demand_of c.args.kind) c.args.self.now
    (expression_of e) c.push_set.new.self c.ask_expressions-in-Set.new.self (to_expressions (expressions_of c.deref-in-Set.result.now))
    c.in_ok-number-in-Set.number.0
    (of_set e c.in-Set.members c.deref-in-Set.result.now c.in-Set.is c.deref-in-Set.ensures.value) c.in_ok-number-in-Set.ensures.number c.in_ok-number-in-Set.ensures.behind)
    c.ask_expressions-in-Set.ensures

pub ask_expression-returns-in-Booleans : goal.ask_expression-returns-in-Booleans
ask_expression-returns-in-Booleans g t c =
    if_ok c.push-in-Booleans.result
    (λ _ h. whole (table_of c.args.types.now) (numbering_of c.args.numbering.now) (names_of c.args.names.now) (demand_of c.args.kind) c.args.self.now
    (expression_of c.args.expression.now) c.push-in-Booleans.new.self Booleans
    (ap expression_of c.in-Booleans.is ∙ forms.of_booleans g.row.A.Denot) (exactly h)) c.push-in-Booleans.ensures

pub ask_expression-returns-in-Datatype : goal.ask_expression-returns-in-Datatype
ask_expression-returns-in-Datatype g t c =
    if_ok c.ask_datatype.result
    (λ _ h. whole (table_of c.args.types.now) (numbering_of c.args.numbering.now) (names_of c.args.names.now) (demand_of c.args.kind) c.args.self.now
    (expression_of c.args.expression.now) c.ask_datatype.new.self (Datatype c.in-Datatype.datatype.0)
    (ap expression_of c.in-Datatype.is ∙ forms.of_datatype g.row.A.Denot c.in-Datatype.datatype) (exactly h)) c.ask_datatype.ensures

pub ask_expression-returns-in-Nametype : goal.ask_expression-returns-in-Nametype
ask_expression-returns-in-Nametype g t c =
    if_ok c.ask_nametype.result
    (λ _ h. whole (table_of c.args.types.now) (numbering_of c.args.numbering.now) (names_of c.args.names.now) (demand_of c.args.kind) c.args.self.now
    (expression_of c.args.expression.now) c.ask_nametype.new.self (Nametype c.in-Nametype.nametype.0)
    (ap expression_of c.in-Nametype.is ∙ forms.of_nametype g.row.A.Denot c.in-Nametype.nametype) (exactly h)) c.ask_nametype.ensures

pub ask_expression-returns-in-Constructor : goal.ask_expression-returns-in-Constructor
ask_expression-returns-in-Constructor g t c =
    if_ok c.ask_constructed.result
    (λ _. whole (table_of c.args.types.now) (numbering_of c.args.numbering.now) (names_of c.args.names.now) (demand_of c.args.kind) c.args.self.now
    (expression_of c.args.expression.now) c.ask_constructed.new.self (ConstructorOf c.in-Constructor.constructor.0 (to_expressions (expressions_of c.deref-in-Constructor.result.now)))
    (of_constructor c.args.expression.now c.in-Constructor.constructor c.in-Constructor.fields c.deref-in-Constructor.result.now c.in-Constructor.is
    c.deref-in-Constructor.ensures.value)) c.ask_constructed.ensures

-- ---- expressions that are all to have one kind

pub ask_expressions-loop-expression-preserved : goal.ask_expressions-loop-expression-preserved
ask_expressions-loop-expression-preserved g t c =
    let types = table_of c.args.types.now in
    let o = numbering_of c.args.numbering.now in
    let names = names_of c.args.names.now in
    let k = demand_of c.args.kind in
    left_more (asked_expressions types o names k) behind_asked c.args.self.now c.loop-expression.self c.args.expressions.now c.loop-expression.expression-index
    (λ n e. of_expression types o n names (expression_of e) k) (λ n e. behind_expression n (expression_of e)) c.ask_expression.new.self c.expression-item.result
    (λ n es. refl) (λ n es. refl)
    c.loop-expression-test.true c.expression-item.is c.loop-expression.invariant c.in_ok-ask_expression.ensures

pub ask_expressions-returns : goal.ask_expressions-returns
ask_expressions-returns g t c =
    let types = table_of c.args.types.now in
    let o = numbering_of c.args.numbering.now in
    let names = names_of c.args.names.now in
    let k = demand_of c.args.kind in
    left_none (asked_expressions types o names k) behind_asked c.args.self.now c.loop-expression.self c.args.expressions.now c.loop-expression.expression-index
    (λ n. refl) (λ n. refl) c.loop-expression-test.false c.loop-expression.invariant

-- ---- a constructor with its fields

pub ask_constructed-returns-in_default : goal.ask_constructed-returns-in_default
ask_constructed-returns-in_default g t c =
    let types = table_of c.args.types.now in
    let o = numbering_of c.args.numbering.now in
    let names = names_of c.args.names.now in
    let es = to_expressions (expressions_of c.args.fields.now) in
    let none = not_found (λ d. d.0) c.deref.result.now c.args.numbering.now.owners.items c.args.constructor.0 c.deref.ensures.value c.in_default.ensures.lookup.3 in
    if_ok c.push_never.result
    (λ _. unowned o.owners o.constructors c.args.constructor.0 (demand_of c.args.kind) (λ n. of_all types o n names es) (λ n. behind_expressions n es)
    c.args.self.now c.push_never.new.self none) c.push_never.ensures

pub ask_constructed-returns-in_default-get : goal.ask_constructed-returns-in_default-get
ask_constructed-returns-in_default-get g t c =
    let types = table_of c.args.types.now in
    let o = numbering_of c.args.numbering.now in
    let names = names_of c.args.names.now in
    let es = to_expressions (expressions_of c.args.fields.now) in
    let owned = found_at c.deref.result.now c.args.numbering.now.owners.items c.args.constructor.0 c.in-Some.datatype.now c.deref.ensures.value
    c.in-Some.ensures.lookup.3.0 c.in-Some.ensures.lookup.1 in
    let none = not_found (λ ns. map (λ n. n.0) ns.items) c.deref-2.result.now c.args.numbering.now.constructors.items c.args.constructor.0 c.deref-2.ensures.value
    c.in_default-get.ensures.lookup.3 in
    if_ok c.push_never-in_default-get.result
    (λ _. unnumbered o.owners o.constructors c.args.constructor.0 (demand_of c.args.kind) (λ n. of_all types o n names es) (λ n. behind_expressions n es)
    c.args.self.now c.push.new.self c.push_never-in_default-get.new.self c.in-Some.datatype.now.0
    (owner_found c.args.numbering.now.owners.items c.args.constructor.0 c.in-Some.datatype.now owned) c.in_ok-push.ensures none)
    c.push_never-in_default-get.ensures

pub ask_constructed-returns : goal.ask_constructed-returns
ask_constructed-returns g t c =
    let types = table_of c.args.types.now in
    let o = numbering_of c.args.numbering.now in
    let names = names_of c.args.names.now in
    let es = to_expressions (expressions_of c.args.fields.now) in
    let owned = found_at c.deref.result.now c.args.numbering.now.owners.items c.args.constructor.0 c.in-Some.datatype.now c.deref.ensures.value
    c.in-Some.ensures.lookup.3.0 c.in-Some.ensures.lookup.1 in
    let found = found_at c.deref-2.result.now c.args.numbering.now.constructors.items c.args.constructor.0 c.in-Some-get.numbers.now c.deref-2.ensures.value
    c.in-Some-get.ensures.lookup.3.0 c.in-Some-get.ensures.lookup.1 in
    if_ok c.ask_all.result
    (λ _. constructed o.owners o.constructors c.args.constructor.0 (demand_of c.args.kind) (λ n. of_all types o n names es) (λ n. behind_expressions n es)
    c.args.self.now c.push.new.self c.ask_all.new.self c.in-Some.datatype.now.0
    (owner_found c.args.numbering.now.owners.items c.args.constructor.0 c.in-Some.datatype.now owned) c.in_ok-push.ensures
    (map (λ n. n.0) c.deref-3.result.now)
    (row_found c.args.numbering.now.constructors.items c.args.constructor.0 c.in-Some-get.numbers.now c.deref-3.result.now found c.deref-3.ensures.value))
    c.ask_all.ensures

-- ---- expressions with the kinds of numbers in turn

pub ask_all-returns-then-expressions-numbers : goal.ask_all-returns-then-expressions-numbers
ask_all-returns-then-expressions-numbers g t c =
    let types = table_of c.args.types.now in
    let o = numbering_of c.args.numbering.now in
    let names = names_of c.args.names.now in
    let s = c.args.self.now in
    let differ : length c.args.expressions.now ≢ length c.args.numbers.now = omega arith in
    never_asks s c.push_never.new.self (asked_all types o names s.next c.args.expressions.now c.args.numbers.now) s.next
    (behind_asked s.next c.args.expressions.now) (unequal types o names s.next c.args.expressions.now c.args.numbers.now differ) c.in_ok-push_never.ensures

pub ask_all-returns : goal.ask_all-returns
ask_all-returns g t c =
    let types = table_of c.args.types.now in
    let o = numbering_of c.args.numbering.now in
    let names = names_of c.args.names.now in
    let s = c.args.self.now in
    let es = c.args.expressions.now in
    let ms = c.args.numbers.now in
    let same : length es ≡ length ms = omega arith in
    asks_same s c.ask_each.new.self (asked_first types o names s.next es ms) (asked_all types o names s.next es ms) (behind_asked s.next es)
    (behind_asked s.next es) (all_first types o names s.next es ms same) refl c.in_ok-ask_each.ensures

pub ask_each-loop-index-preserved : goal.ask_each-loop-index-preserved
ask_each-loop-index-preserved g t c =
    each_more (table_of c.args.types.now) (numbering_of c.args.numbering.now) (names_of c.args.names.now) c.args.self.now c.loop-index.self
    c.ask_expression.new.self c.args.expressions.now c.args.numbers.now c.loop-index.index c.index-expressions-index.result _ c.loop-index-test.true c.requires
    c.index-expressions-index.is c.loop-index.invariant c.in_ok-ask_expression.ensures

pub ask_each-returns : goal.ask_each-returns
ask_each-returns g t c =
    each_all (table_of c.args.types.now) (numbering_of c.args.numbering.now) (names_of c.args.names.now) c.args.self.now c.loop-index.self
    c.args.expressions.now c.args.numbers.now c.loop-index.index c.loop-index-test.false c.loop-index.invariant
