-- The step that is met does the action.
use Rattle.std.proofs.Common.{Some, length, refl, ◌∙◌, ap}
use Rattle.std.proofs.lemmas.Option.{slice_get_read}
use Rattle.theory_syntax.proofs.Places.{get_some}
use Rattle.spread_runs.specs.Toward.{action_done}
use Rattle.spread_runs.proofs.toward.near_place.Goals as goal

pub returns-then-is_near : goal.returns-then-is_near
returns-then-is_near g c =
    let steps = c.args.steps.now in
    let place = c.loop-place.place in
    let step = c.index-steps-place.result in
    let there = slice_get_read steps (length steps) place step refl c.loop-place-test.true c.index-steps-place.is in
    get_some action_done steps place step there ∙ ap Some (c.equal_actions.ensures.0 c.if-equal_actions.true)
