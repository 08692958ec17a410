-- The sets of the channel, and then the values of the fields.
use Rattle.std.proofs.Common.{List, Result, Err, sym, ◌∙◌, ap, subst}
use Rattle.std.proofs.lemmas.Result.{err_from_is_err_and}
use Rattle.theory_syntax.specs.Value as pure
use Rattle.theory_syntax.specs.Expression.{to_expressions}
use Rattle.theory_semantics.specs.Meaning.Evaluation.{Cause, given_values}
use Rattle.theory_semantics.specs.Meaning.Events.{beginning_of}
use Rattle.csp_value.specs.declared.action.Event.{Event}
use Rattle.csp_value.specs.Value.{values_of}
use Rattle.csp_expression.specs.Evaluation.{table_of}
use Rattle.csp_expression.specs.Expression.{expressions_of}
use Rattle.csp_events.specs.Events.{event_expression_of}
use Rattle.csp_events.specs.Channels.{declaring}
use Rattle.csp_expression.specs.declared.no_value.NoValue.{NoValue}
use Rattle.csp_value.specs.Fields.{sets_of}
use Rattle.csp_events.specs.Testing.{AreGivenBy, IsEventOf}
use Rattle.csp_events.proofs.Giving.{begun, sets_stuck, values_stuck}
use Rattle.csp_events.proofs.event_test.beginning.Goals as goal

pub returns-in_err-sets : goal.returns-in_err-sets
returns-in_err-sets g c =
    let script = declaring c.args.types.now c.args.channels.now in
    let e = event_expression_of c.args.written.now in
    let p = err_from_is_err_and c.from_residual.result c.from_residual.ensures.1 in
    let P : Result (Event g.row.A.Denot) NoValue → Type 0 = λ r. IsEventOf r (beginning_of script e) in
    subst P (sym (p.1 ∙ ap Err p.2)) (sets_stuck g.row.A.Denot script e c.in_err-sets.field-0.0 (c.in_err-sets.ensures c.args.types.now))

pub returns-in_err-fields : goal.returns-in_err-fields
returns-in_err-fields g c =
    let script = declaring c.args.types.now c.args.channels.now in
    let e = event_expression_of c.args.written.now in
    let sets = sets_of c.in_ok-sets.sets.now in
    let same = ap (λ es. given_values (table_of c.args.types.now) (to_expressions (expressions_of es)) sets) c.deref.ensures.value in
    let G : Result (List pure.Value) Cause → Type 0 = λ r. AreGivenBy {A = g.row.A.Denot} (Err c.in_err-fields.field-0.0) r in
    let p = err_from_is_err_and c.from_residual-in_err-fields.result c.from_residual-in_err-fields.ensures.1 in
    let P : Result (Event g.row.A.Denot) NoValue → Type 0 = λ r. IsEventOf r (beginning_of script e) in
    subst P (sym (p.1 ∙ ap Err p.2)) (values_stuck g.row.A.Denot script e sets (c.in_ok-sets.ensures c.args.types.now) c.in_err-fields.field-0.0 (subst G same c.in_err-fields.ensures))

pub returns : goal.returns
returns g c =
    let script = declaring c.args.types.now c.args.channels.now in
    let e = event_expression_of c.args.written.now in
    let sets = sets_of c.in_ok-sets.sets.now in
    let same = ap (λ es. given_values (table_of c.args.types.now) (to_expressions (expressions_of es)) sets) c.deref.ensures.value in
    begun script e sets (c.in_ok-sets.ensures c.args.types.now) (values_of c.in_ok-fields.fields.items) (sym same ∙ c.in_ok-fields.ensures)
