-- The values of a list of expressions, and of the forms that have one.
use Rattle.std.proofs.Common.{◌≡◌, List, Result, rules, arith, length, Ok, Err, refl, sym, ◌∙◌, ap, subst}
use Rattle.std.proofs.lemmas.List.{take_all}
use Rattle.std.proofs.lemmas.Option.{slice_get_past, slice_get_read}
use Rattle.std.proofs.lemmas.Result.{err_from_is_err_and}
use Rattle.std.specs.declared.vec.Vec.{Vec}
use Rattle.theory_syntax.specs.Value as pure
use Rattle.theory_syntax.specs.Expression.{ConstructorOf, to_expressions}
use Rattle.theory_semantics.specs.Meaning.Evaluation.{Cause, ◌and_then◌, constructed, given_values, in_field_set, sequence, set_of, value, values}
use Rattle.csp_value.specs.declared.value.Value.{Value}
use Rattle.csp_value.specs.Fields.{field_values, sets_of}
use Rattle.csp_value.specs.Value.{value_of, values_of}
use Rattle.csp_expression.specs.declared.no_value.NoValue.{NoValue}
use Rattle.csp_expression.specs.declared.seen.Seen.{Seen}
use Rattle.csp_expression.specs.Evaluation.{GivesAll, Sees, seen_value, table_of}
use Rattle.theory_semantics.specs.Meaning.Substitution.{put_expression}
use Rattle.csp_expression.specs.Bindings.{bindings_of, puts}
use Rattle.csp_expression.specs.Expression.{expression_of}
use Rattle.csp_expression.proofs.Evaluating.{found_more, found_none, fields_smaller, given_found, none_behind, value_of_constructor, value_of_sequence, value_of_set_form}
use Rattle.csp_expression.proofs.GivenFields.{given_stops, next_given, too_many}
use Rattle.csp_expression.proofs.+eval.Goals as goal

pub eval::look_at_all-returns-in_err-seen : goal.eval::look_at_all-returns-in_err-seen
eval::look_at_all-returns-in_err-seen g t c =
    let types = table_of c.args.types.now in
    let stop : GivesAll {A = g.row.A.Denot} (Err c.in_err-seen.field-0.0) (values types (to_expressions (puts (bindings_of c.args.bindings.now) c.args.expressions.now))) = found_none types (bindings_of c.args.bindings.now) c.args.expressions.now c.loop-expression.expression-index c.loop-expression.all.items c.expression-item.result c.in_err-seen.field-0.0 c.loop-expression.invariant c.loop-expression-test.true c.expression-item.is c.in_err-seen.ensures in
    let p = err_from_is_err_and c.from_residual.result c.from_residual.ensures.1 in
    let P : Result (Vec (Value g.row.A.Denot) g.row.A.Denot) NoValue → Type 0 = λ r. GivesAll r (values types (to_expressions (puts (bindings_of c.args.bindings.now) c.args.expressions.now))) in
    subst P (sym (p.1 ∙ ap Err p.2)) stop

pub eval::look_at_all-loop-expression-preserved : goal.eval::look_at_all-loop-expression-preserved
eval::look_at_all-loop-expression-preserved g t c =
    let types = table_of c.args.types.now in
    let one : value types (put_expression (bindings_of c.args.bindings.now) (expression_of c.expression-item.result)) ≡ Ok (value_of c.in_ok-into_value.field-0) = c.in_ok-seen.ensures ∙ ap Ok (sym c.in_ok-into_value.ensures) in
    found_more types (bindings_of c.args.bindings.now) c.args.expressions.now c.loop-expression.expression-index c.loop-expression.all.items c.expression-item.result c.in_ok-into_value.field-0 c.push.new.self.items
    c.loop-expression.invariant c.loop-expression-test.true c.expression-item.is one c.in_ok-push.ensures.items

pub eval::look_at_all-returns : goal.eval::look_at_all-returns
eval::look_at_all-returns g t c =
    let types = table_of c.args.types.now in
    let all = take_all c.loop-expression.expression-index c.args.expressions.now (omega arith) in
    ap (λ es. values types (to_expressions (puts (bindings_of c.args.bindings.now) es))) (sym all) ∙ c.loop-expression.invariant

pub expr::Expr::look-returns-in_err-values-in-Sequence : goal.expr::Expr::look-returns-in_err-values-in-Sequence
expr::Expr::look-returns-in_err-values-in-Sequence g t c =
    let is = value_of_sequence (table_of c.args.types.now) (bindings_of c.args.bindings.now) c.args.self.now c.in-Sequence.items c.deref-in-Sequence.result.now c.in-Sequence.is c.deref-in-Sequence.ensures.value in
    let P : Result pure.Value Cause → Type 0 = λ r. Sees c.from_residual-in_err-values-in-Sequence.result r in
    subst P (sym is) (search rules)

pub expr::Expr::look-returns-in_err-sequence-in-Sequence : goal.expr::Expr::look-returns-in_err-sequence-in-Sequence
expr::Expr::look-returns-in_err-sequence-in-Sequence g t c =
    let is = value_of_sequence (table_of c.args.types.now) (bindings_of c.args.bindings.now) c.args.self.now c.in-Sequence.items c.deref-in-Sequence.result.now c.in-Sequence.is c.deref-in-Sequence.ensures.value in
    let P : Result pure.Value Cause → Type 0 = λ r. Sees c.from_residual-in_err-sequence-in-Sequence.result r in
    subst P (sym (is ∙ ap (λ r. r and_then λ vs. sequence vs) c.in_ok-values-in-Sequence.ensures)) (search rules)

pub expr::Expr::look-returns-in_ok-sequence-in-Sequence : goal.expr::Expr::look-returns-in_ok-sequence-in-Sequence
expr::Expr::look-returns-in_ok-sequence-in-Sequence g t c =
    let is = value_of_sequence (table_of c.args.types.now) (bindings_of c.args.bindings.now) c.args.self.now c.in-Sequence.items c.deref-in-Sequence.result.now c.in-Sequence.is c.deref-in-Sequence.ensures.value in
    is ∙ ap (λ r. r and_then λ vs. sequence vs) c.in_ok-values-in-Sequence.ensures ∙ c.in_ok-sequence-in-Sequence.ensures

pub expr::Expr::look-returns-in_err-values-in-Set : goal.expr::Expr::look-returns-in_err-values-in-Set
expr::Expr::look-returns-in_err-values-in-Set g t c =
    let is = value_of_set_form (table_of c.args.types.now) (bindings_of c.args.bindings.now) c.args.self.now c.in-Set.members c.deref-in-Set.result.now c.in-Set.is c.deref-in-Set.ensures.value in
    let P : Result pure.Value Cause → Type 0 = λ r. Sees c.from_residual-in_err-values-in-Set.result r in
    subst P (sym is) (search rules)

pub expr::Expr::look-returns-in_err-set_of_values-in-Set : goal.expr::Expr::look-returns-in_err-set_of_values-in-Set
expr::Expr::look-returns-in_err-set_of_values-in-Set g t c =
    let is = value_of_set_form (table_of c.args.types.now) (bindings_of c.args.bindings.now) c.args.self.now c.in-Set.members c.deref-in-Set.result.now c.in-Set.is c.deref-in-Set.ensures.value in
    let P : Result pure.Value Cause → Type 0 = λ r. Sees c.from_residual-in_err-set_of_values-in-Set.result r in
    subst P (sym (is ∙ ap (λ r. r and_then λ vs. set_of (pure.sorted_values vs)) c.in_ok-values-in-Set.ensures)) (search rules)

pub expr::Expr::look-returns-in_ok-set_of_values-in-Set : goal.expr::Expr::look-returns-in_ok-set_of_values-in-Set
expr::Expr::look-returns-in_ok-set_of_values-in-Set g t c =
    let is = value_of_set_form (table_of c.args.types.now) (bindings_of c.args.bindings.now) c.args.self.now c.in-Set.members c.deref-in-Set.result.now c.in-Set.is c.deref-in-Set.ensures.value in
    is ∙ ap (λ r. r and_then λ vs. set_of (pure.sorted_values vs)) c.in_ok-values-in-Set.ensures ∙ c.in_ok-set_of_values-in-Set.ensures

pub expr::Expr::look-look_at_constructor-requires : goal.expr::Expr::look-look_at_constructor-requires
expr::Expr::look-look_at_constructor-requires g t c κs within =
    let less = fields_smaller g.row.A.Denot c.args.self.now c.in-Constructor.constructor c.in-Constructor.fields c.deref-in-Constructor.result.now c.in-Constructor.is c.deref-in-Constructor.ensures.value in
    (omega (arith, c.decreases, less), search rules)

pub expr::Expr::look-returns-in-Constructor : goal.expr::Expr::look-returns-in-Constructor
expr::Expr::look-returns-in-Constructor g t c =
    let types = table_of c.args.types.now in
    let bs = bindings_of c.args.bindings.now in
    let is = value_of_constructor types bs c.args.self.now c.in-Constructor.constructor c.in-Constructor.fields c.deref-in-Constructor.result.now c.in-Constructor.is c.deref-in-Constructor.ensures.value in
    let P : Result pure.Value Cause → Type 0 = λ r. Sees c.look_at_constructor.result r in
    subst P (sym is) c.look_at_constructor.ensures

pub eval::look_at_constructor-returns-in_err-values : goal.eval::look_at_constructor-returns-in_err-values
eval::look_at_constructor-returns-in_err-values g t c =
    let k = c.args.constructor.0 in
    let types = table_of c.args.types.now in
    let sets = sets_of c.in_ok-sets.sets.now in
    let es = to_expressions (puts (bindings_of c.args.bindings.now) c.args.fields.now) in
    let is : value types (ConstructorOf k es) ≡ (given_values types es sets and_then λ vs. constructed k sets vs) = ap (λ r. r and_then λ sets. given_values types es sets and_then λ vs. constructed k sets vs) c.in_ok-sets.ensures in
    let several : Vec (Value g.row.A.Denot) g.row.A.Denot → List pure.Value = λ vs. values_of vs.items in
    let p = err_from_is_err_and c.from_residual-in_err-values.result c.from_residual-in_err-values.ensures.1 in
    let P : Result (Seen g.row.A.Denot) NoValue → Type 0 = λ r. Sees r (value types (ConstructorOf k es)) in
    let Q : Result pure.Value Cause → Type 0 = λ r. Sees {A = g.row.A.Denot} (Err c.in_err-values.field-0.0) r in
    subst P (sym (p.1 ∙ ap Err p.2)) (subst Q (sym is) (none_behind several (seen_value {A = g.row.A.Denot}) c.in_err-values.field-0.0 (given_values types es sets) (λ vs. constructed k sets vs) c.in_err-values.ensures))

pub eval::look_at_constructor-returns-in_err-constructed : goal.eval::look_at_constructor-returns-in_err-constructed
eval::look_at_constructor-returns-in_err-constructed g t c =
    let k = c.args.constructor.0 in
    let types = table_of c.args.types.now in
    let sets = sets_of c.in_ok-sets.sets.now in
    let es = to_expressions (puts (bindings_of c.args.bindings.now) c.args.fields.now) in
    let is : value types (ConstructorOf k es) ≡ constructed k sets (values_of c.in_ok-values.values.items) =
    ap (λ r. r and_then λ sets. given_values types es sets and_then λ vs. constructed k sets vs) c.in_ok-sets.ensures ∙ ap (λ r. r and_then λ vs. constructed k sets vs) c.in_ok-values.ensures in
    let p = err_from_is_err_and c.from_residual-in_err-constructed.result c.from_residual-in_err-constructed.ensures.1 in
    let P : Result (Seen g.row.A.Denot) NoValue → Type 0 = λ r. Sees r (value types (ConstructorOf k es)) in
    subst P (sym (p.1 ∙ ap Err p.2)) (is ∙ c.in_err-constructed.ensures)

pub eval::look_at_constructor-returns : goal.eval::look_at_constructor-returns
eval::look_at_constructor-returns g t c =
    let k = c.args.constructor.0 in
    let types = table_of c.args.types.now in
    let sets = sets_of c.in_ok-sets.sets.now in
    let es = to_expressions (puts (bindings_of c.args.bindings.now) c.args.fields.now) in
    ap (λ r. r and_then λ sets. given_values types es sets and_then λ vs. constructed k sets vs) c.in_ok-sets.ensures
    ∙ ap (λ r. r and_then λ vs. constructed k sets vs) c.in_ok-values.ensures ∙ c.in_ok-constructed.ensures

pub eval::look_at_fields-returns-in_default : goal.eval::look_at_fields-returns-in_default
eval::look_at_fields-returns-in_default g t c =
    too_many (table_of c.args.types.now) (λ e. put_expression (bindings_of c.args.bindings.now) (expression_of e)) c.args.fields.now c.args.sets.now c.loop-place.place c.index-fields-place.result c.loop-place.all.items c.loop-place.invariant c.loop-place-test.true c.index-fields-place.is
    (slice_get_past c.args.sets.now c.loop-place.place c.in_default.ensures.lookup.3)

-- one field more has no value
pub eval::look_at_fields-returns-in_err-seen : goal.eval::look_at_fields-returns-in_err-seen
eval::look_at_fields-returns-in_err-seen g t c =
    let types = table_of c.args.types.now in
    let bs = bindings_of c.args.bindings.now in
    let sets = c.args.sets.now in
    let set = c.in-Some.set.now in
    let look = c.in-Some.ensures.lookup in
    let at = slice_get_read sets (length sets) c.loop-place.place set refl look.3.0 look.1 in
    let p = err_from_is_err_and c.from_residual.result c.from_residual.ensures.1 in
    let several : Vec (Value g.row.A.Denot) g.row.A.Denot → List pure.Value = λ vs. values_of vs.items in
    let P : Result (Vec (Value g.row.A.Denot) g.row.A.Denot) NoValue → Type 0 = λ r. GivesAll r (given_values types (to_expressions (puts bs c.args.fields.now)) (sets_of sets)) in
    subst P (sym (p.1 ∙ ap Err p.2))
    (given_stops types (λ e. put_expression bs (expression_of e)) c.args.fields.now sets c.loop-place.place c.index-fields-place.result c.loop-place.all.items c.loop-place.invariant c.loop-place-test.true c.index-fields-place.is
    (seen_value {A = g.row.A.Denot}) several set c.in_err-seen.field-0.0 at
    (none_behind (seen_value {A = g.row.A.Denot}) (seen_value {A = g.row.A.Denot}) c.in_err-seen.field-0.0 (value types (put_expression bs (expression_of c.index-fields-place.result))) (λ v. in_field_set (field_values set) v) c.in_err-seen.ensures))

-- its value lies elsewhere
pub eval::look_at_fields-returns-in_err-given : goal.eval::look_at_fields-returns-in_err-given
eval::look_at_fields-returns-in_err-given g t c =
    let types = table_of c.args.types.now in
    let bs = bindings_of c.args.bindings.now in
    let sets = c.args.sets.now in
    let set = c.in-Some.set.now in
    let look = c.in-Some.ensures.lookup in
    let at = slice_get_read sets (length sets) c.loop-place.place set refl look.3.0 look.1 in
    let e = put_expression bs (expression_of c.index-fields-place.result) in
    let p = err_from_is_err_and c.from_residual-in_err-given.result c.from_residual-in_err-given.ensures.1 in
    let several : Vec (Value g.row.A.Denot) g.row.A.Denot → List pure.Value = λ vs. values_of vs.items in
    let P : Result (Vec (Value g.row.A.Denot) g.row.A.Denot) NoValue → Type 0 = λ r. GivesAll r (given_values types (to_expressions (puts bs c.args.fields.now)) (sets_of sets)) in
    let Q : Result pure.Value Cause → Type 0 = λ r. Sees {A = g.row.A.Denot} (Err c.in_err-given.field-0.0) r in
    subst P (sym (p.1 ∙ ap Err p.2))
    (given_stops types (λ e. put_expression bs (expression_of e)) c.args.fields.now sets c.loop-place.place c.index-fields-place.result c.loop-place.all.items c.loop-place.invariant c.loop-place-test.true c.index-fields-place.is
    (seen_value {A = g.row.A.Denot}) several set c.in_err-given.field-0.0 at
    (subst Q (sym (given_found types e (field_values set) (seen_value c.in_ok-seen.seen) c.in_ok-seen.ensures)) c.in_err-given.ensures))

pub eval::look_at_fields-loop-place-preserved : goal.eval::look_at_fields-loop-place-preserved
eval::look_at_fields-loop-place-preserved g t c =
    let types = table_of c.args.types.now in
    let bs = bindings_of c.args.bindings.now in
    let sets = c.args.sets.now in
    let set = c.in-Some.set.now in
    let look = c.in-Some.ensures.lookup in
    let at = slice_get_read sets (length sets) c.loop-place.place set refl look.3.0 look.1 in
    let e = put_expression bs (expression_of c.index-fields-place.result) in
    let one = given_found types e (field_values set) (seen_value c.in_ok-seen.seen) c.in_ok-seen.ensures ∙ c.in_ok-given.ensures ∙ ap Ok (sym c.in_ok-into_value.ensures) in
    next_given types (λ e. put_expression bs (expression_of e)) c.args.fields.now sets c.loop-place.place c.index-fields-place.result c.loop-place.all.items c.loop-place.invariant c.loop-place-test.true c.index-fields-place.is
    set c.in_ok-into_value.field-0 c.push.new.self.items at one c.in_ok-push.ensures.items

pub eval::look_at_fields-returns : goal.eval::look_at_fields-returns
eval::look_at_fields-returns g t c =
    let all = take_all c.loop-place.place c.args.fields.now (omega arith) in
    ap (λ es. given_values (table_of c.args.types.now) (to_expressions (puts (bindings_of c.args.bindings.now) es)) (sets_of c.args.sets.now)) (sym all) ∙ c.loop-place.invariant
