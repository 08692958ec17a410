use Rattle.std.proofs.Common.{Result, Err, sym, ◌∙◌, ap, subst}
use Rattle.std.proofs.lemmas.Result.{err_from_is_err_and}
use Rattle.theory_semantics.specs.Meaning.Events as events
use Rattle.csp_expression.specs.declared.no_value.NoValue.{NoValue}
use Rattle.csp_events.specs.Events.{event_expression_of}
use Rattle.csp_term.specs.Script.{script_of_parts}
use Rattle.csp_events.proofs.Naming.{no_first_event, no_second_event}
use Rattle.csp_numbers.specs.declared.pair.Pair.{Pair}
use Rattle.csp_numbers.specs.Pairs.{IsPairOf}
use Rattle.csp_numbers.proofs.InTurn.{events_named, stopped_at_number}
use Rattle.csp_numbers.proofs.pair.pair_of_events.Goals as goal

pub returns-in_err-from : goal.returns-in_err-from
returns-in_err-from g c =
    let s = script_of_parts c.args.script.now in
    let from = event_expression_of c.args.pair.now.from in
    let to = event_expression_of c.args.pair.now.to in
    let all = events.event_images s from to in
    let p = err_from_is_err_and c.from_residual.result c.from_residual.ensures.1 in
    let P : Result Pair NoValue → Type 0 = λ r. IsPairOf c.args.alphabet.now r all in
    subst P (sym (p.1 ∙ ap Err p.2)) (stopped_at_number c.args.alphabet.now (events.event_of s from) all c.in_err-from.field-0.0 c.in_err-from.ensures (λ cause none. no_first_event s from to cause none))

pub returns-in_err-to : goal.returns-in_err-to
returns-in_err-to g c =
    let s = script_of_parts c.args.script.now in
    let from = event_expression_of c.args.pair.now.from in
    let to = event_expression_of c.args.pair.now.to in
    let all = events.event_images s from to in
    let first = c.in_ok-from.ensures in
    let p = err_from_is_err_and c.from_residual-in_err-to.result c.from_residual-in_err-to.ensures.1 in
    let P : Result Pair NoValue → Type 0 = λ r. IsPairOf c.args.alphabet.now r all in
    subst P (sym (p.1 ∙ ap Err p.2))
    (stopped_at_number c.args.alphabet.now (events.event_of s to) all c.in_err-to.field-0.0 c.in_err-to.ensures (λ cause none. no_second_event s from to cause first.0 first.1 none))

pub returns : goal.returns
returns g c =
    let first = c.in_ok-from.ensures in
    let second = c.in_ok-to.ensures in
    events_named (script_of_parts c.args.script.now) c.args.alphabet.now (event_expression_of c.args.pair.now.from) (event_expression_of c.args.pair.now.to) c.in_ok-from.from c.in_ok-to.to first.0 second.0 first.1 second.1 first.2 second.2
