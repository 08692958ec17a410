-- One copy more, and the state at the place behind them.
use Rattle.std.proofs.Common.{[], ◌∷◌, ◌++◌, length, map, refl, sym, ◌∙◌, ap, ap₂}
use Rattle.std.proofs.lemmas.List.{map-append}
use Rattle.std.proofs.lemmas.Option.{slice_get_read}
use Rattle.theory_syntax.proofs.Places.{get_some}
use Rattle.theory_search.proofs.Adding.{take_next, take_whole}
use Rattle.csp_term.specs.Term.{process_of}
use Rattle.spread_runs.proofs.loops.states_round.Goals as goal

pub loop-state-preserved : goal.loop-state-preserved
loop-state-preserved g c =
    let round = c.loop-state.round.items in
    let pushed = ap (map process_of) c.in_ok-push.ensures.items ∙ map-append process_of round (c.in_ok-copy.copy ∷ []) in
    let longer = take_next process_of c.args.states.now c.loop-state.state-index c.state-item.result c.loop-state-test.true c.state-item.is in
    pushed ∙ ap₂ (λ xs x. xs ++ x ∷ []) c.loop-state.invariant c.in_ok-copy.ensures ∙ sym longer

pub returns : goal.returns
returns g c =
    let states = c.args.states.now in
    let round = c.loop-state.round.items in
    let again = c.index-states-back.result in
    let stands = get_some process_of states c.args.back again (slice_get_read states (length states) c.args.back again refl c.requires c.index-states-back.is) in
    let past = c.loop-state-test.false in
    let pushed = ap (map process_of) c.in_ok-push-2.ensures.items ∙ map-append process_of round (c.in_ok-again.again ∷ []) in
    (process_of again, stands, pushed ∙ ap₂ (λ xs x. xs ++ x ∷ []) (c.loop-state.invariant ∙ take_whole process_of states c.loop-state.state-index past) c.in_ok-again.ensures)
