-- The beginning is whole where it has as many fields as the channel.
use Rattle.std.proofs.Common.{Result, Err, sym, ◌∙◌, ap, subst, inl, inr, lit<, arith}
use Rattle.std.proofs.lemmas.Result.{err_from_is_err_and}
use Rattle.theory_semantics.specs.Meaning.Events as events
use Rattle.csp_value.specs.declared.action.Event.{Event}
use Rattle.csp_value.specs.Action.{event_of}
use Rattle.csp_value.specs.Value.{value_of}
use Rattle.csp_events.specs.Events.{event_expression_of}
use Rattle.csp_value.specs.Fields.{field_values, sets_of}
use Rattle.csp_events.specs.Channels.{declaring}
use Rattle.csp_expression.specs.declared.no_value.NoValue.{NoValue}
use Rattle.csp_events.specs.Testing.{IsEventOf}
use Rattle.csp_events.proofs.Giving.{beginning_stuck, not_all, sets_stuck, whole}
use Rattle.std.proofs.lemmas.List.{length-map}
use Rattle.csp_events.proofs.event_test.whole_event.Goals as goal

pub returns-in_err-sets : goal.returns-in_err-sets
returns-in_err-sets g c =
    let script = declaring c.args.types.now c.args.channels.now in
    let e = event_expression_of c.args.written.now in
    let why = c.in_err-sets.field-0.0 in
    let p = err_from_is_err_and c.from_residual-in_err-sets.result c.from_residual-in_err-sets.ensures.1 in
    let P : Result (Event g.row.A.Denot) NoValue → Type 0 = λ r. IsEventOf r (events.event_of script e) in
    subst P (sym (p.1 ∙ ap Err p.2)) (beginning_stuck g.row.A.Denot script e why (sets_stuck g.row.A.Denot script e why (c.in_err-sets.ensures c.args.types.now)))

pub returns-then-len-sets : goal.returns-then-len-sets
returns-then-len-sets g c =
    let event = c.in_ok-event.event in
    let sets = c.in_ok-sets.sets.now in
    let fields = length-map event.fields.items value_of in
    let wanted = length-map sets field_values in
    whole (declaring c.args.types.now c.args.channels.now) (event_expression_of c.args.written.now) (sets_of sets) (c.in_ok-sets.ensures c.args.types.now) (event_of event) c.in_ok-event.ensures (omega (arith, c.if-len-sets.true, c.len.ensures.value, fields, wanted))

pub returns-else-len-sets : goal.returns-else-len-sets
returns-else-len-sets g c =
    let event = c.in_ok-event.event in
    let sets = c.in_ok-sets.sets.now in
    let fields = length-map event.fields.items value_of in
    let wanted = length-map sets field_values in
    not_all (declaring c.args.types.now c.args.channels.now) (event_expression_of c.args.written.now) (sets_of sets) (c.in_ok-sets.ensures c.args.types.now) (event_of event) c.in_ok-event.ensures (λ e. c.if-len-sets.false (omega (arith, e, c.len.ensures.value, fields, wanted)))

pub array_drop-event-requires-else-len-sets : goal.array_drop-event-requires-else-len-sets
array_drop-event-requires-else-len-sets g c = elim g.met.A.AllocHandle.small [ inl e ↦ rw (e.0, e.1) (lit< tt) | inr e ↦ rw (e.0, e.1) (lit< tt) ]
