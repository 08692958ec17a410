-- One more action is offered, or is lacking.
use Rattle.std.proofs.Common.{◌≡◌, ◌++◌, ◌∷◌, [], map, ◌∙◌, ap}
use Rattle.std.proofs.lemmas.List.{map-append}
use Rattle.theory_search.proofs.Adding.{take_whole}
use Rattle.csp_value.specs.Action.{action_of}
use Rattle.csp_value.proofs.ActionEquality.{action_tells}
use Rattle.theory_explanation.specs.Lacking.{lacking}
use Rattle.csp_replay.proofs.Within.{told_there, told_missing}
use Rattle.theory_explanation.proofs.Lacking.{lacks_no_more, lacks_one_more}
use Rattle.counterexample.proofs.lacks.lacking.Goals as goal

pub loop-action-preserved-then-contains : goal.loop-action-preserved-then-contains
loop-action-preserved-then-contains g c =
    let x = c.action-item.result in
    let tells = action_tells g.row.A g.A.AllocHandle g.A.AllocHandle-dict g.A.Allocator g.A.Allocator-dict g.A.Clone g.A.Clone-dict in
    lacks_no_more action_of (map action_of c.args.offer.now) c.args.acceptance.now c.loop-action.action-index x c.loop-action-test.true c.action-item.is
    (map action_of c.loop-action.lacks.items) c.loop-action.invariant (told_there tells c.args.offer.now x c.contains.result c.contains.ensures.value c.if-contains.true)

pub loop-action-preserved : goal.loop-action-preserved
loop-action-preserved g c =
    let x = c.action-item.result in
    let tells = action_tells g.row.A g.A.AllocHandle g.A.AllocHandle-dict g.A.Allocator g.A.Allocator-dict g.A.Clone g.A.Clone-dict in
    let now = map action_of c.loop-action.lacks.items in
    let copy = c.in_ok-try_copy.field-0 in
    let pushed : map action_of c.push.new.self.items ≡ now ++ action_of x ∷ [] =
    ap (map action_of) c.in_ok-push.ensures.items ∙ map-append action_of c.loop-action.lacks.items (copy ∷ []) ∙ ap (λ y. now ++ y ∷ []) c.in_ok-try_copy.ensures in
    lacks_one_more action_of (map action_of c.args.offer.now) c.args.acceptance.now c.loop-action.action-index x c.loop-action-test.true c.action-item.is
    now (map action_of c.push.new.self.items) c.loop-action.invariant (told_missing tells c.args.offer.now x c.contains.result c.contains.ensures.value c.if-contains.false) pushed

pub returns : goal.returns
returns g c =
    c.loop-action.invariant ∙ ap (lacking (map action_of c.args.offer.now)) (take_whole action_of c.args.acceptance.now c.loop-action.action-index c.loop-action-test.false)
