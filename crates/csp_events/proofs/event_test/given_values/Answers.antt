-- Each field in turn, or the first cause.
use Rattle.std.proofs.Common.{length, Result, Err, refl, sym, ◌∙◌, ap, subst, arith}
use Rattle.std.proofs.lemmas.List.{take_all}
use Rattle.std.proofs.lemmas.Option.{slice_get_past, slice_get_read}
use Rattle.std.proofs.lemmas.Result.{err_from_is_err_and}
use Rattle.smallvec.specs.SmallVec.{SmallVec}
use Rattle.theory_syntax.specs.Expression.{to_expressions}
use Rattle.theory_semantics.specs.Meaning.Evaluation.{given_values}
use Rattle.csp_value.specs.declared.value.Value.{Value}
use Rattle.csp_expression.specs.Evaluation.{table_of}
use Rattle.csp_expression.specs.Expression.{expression_of, expressions_of}
use Rattle.csp_expression.proofs.GivenFields.{given_stops, next_given, too_many}
use Rattle.csp_expression.specs.declared.no_value.NoValue.{NoValue}
use Rattle.csp_value.specs.Fields.{sets_of}
use Rattle.csp_value.specs.Value.{value_of, values_of}
use Rattle.csp_events.specs.Testing.{AreGivenBy}
use Rattle.csp_events.proofs.event_test.given_values.Goals as goal

pub returns-in_default : goal.returns-in_default
returns-in_default g c =
    too_many (table_of c.args.types.now) (λ e. expression_of e) c.args.fields.now c.args.sets.now c.loop-place.place c.index-fields-place.result c.loop-place.values.items c.loop-place.invariant c.loop-place-test.true c.index-fields-place.is
    (slice_get_past c.args.sets.now c.loop-place.place c.in_default.ensures.lookup.3)

pub returns-in_err-find_within : goal.returns-in_err-find_within
returns-in_err-find_within g c =
    let types = table_of c.args.types.now in
    let sets = c.args.sets.now in
    let set = c.in-Some.set.now in
    let look = c.in-Some.ensures.lookup in
    let at = slice_get_read sets (length sets) c.loop-place.place set refl look.3.0 look.1 in
    let p = err_from_is_err_and c.from_residual.result c.from_residual.ensures.1 in
    let P : Result (SmallVec (Value g.row.A.Denot)) NoValue → Type 0 = λ r. AreGivenBy r (given_values types (to_expressions (expressions_of c.args.fields.now)) (sets_of sets)) in
    subst P (sym (p.1 ∙ ap Err p.2))
    (given_stops types (λ e. expression_of e) c.args.fields.now sets c.loop-place.place c.index-fields-place.result c.loop-place.values.items c.loop-place.invariant c.loop-place-test.true c.index-fields-place.is
    (λ (v : Value g.row.A.Denot). value_of v) (λ (vs : SmallVec (Value g.row.A.Denot)). values_of vs.items) set c.in_err-find_within.field-0.0 at c.in_err-find_within.ensures)

pub loop-place-preserved : goal.loop-place-preserved
loop-place-preserved g c =
    let sets = c.args.sets.now in
    let set = c.in-Some.set.now in
    let look = c.in-Some.ensures.lookup in
    let at = slice_get_read sets (length sets) c.loop-place.place set refl look.3.0 look.1 in
    next_given (table_of c.args.types.now) (λ e. expression_of e) c.args.fields.now sets c.loop-place.place c.index-fields-place.result c.loop-place.values.items c.loop-place.invariant c.loop-place-test.true c.index-fields-place.is
    set c.in_ok-find_within.field-0 c.push.new.self.items at c.in_ok-find_within.ensures c.in_ok-push.ensures.ok

pub returns : goal.returns
returns g c =
    let all = take_all c.loop-place.place c.args.fields.now (omega arith) in
    ap (λ es. given_values (table_of c.args.types.now) (to_expressions (expressions_of es)) (sets_of c.args.sets.now)) (sym all) ∙ c.loop-place.invariant
