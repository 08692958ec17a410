-- Each step of the body, in turn.
use Rattle.std.proofs.Common.{[], map, ◌∙◌, ap}
use Rattle.std.proofs.lemmas.Iterator.Adapters.{YieldsList-from_vec}
use Rattle.std.proofs.lemmas.Iterator.Consumers.{YieldsList-end}
use Rattle.csp_value.specs.Action.{action_of}
use Rattle.csp_steps.specs.Answering.{answered_of, target_of}
use Rattle.csp_steps.specs.Composing.{each_answer, frame_of, hide_answer, under_limits}
use Rattle.csp_events.specs.Testing.{test_of}
use Rattle.csp_steps.proofs.Collecting.{none_collected, yielded_all, one_collected, one_pushed}
use Rattle.csp_steps.proofs.hiding.without.Goals as goal

pub loop-of_body-init : goal.loop-of_body-init
loop-of_body-init g c = none_collected (hide_answer (test_of c.args.test.now) (under_limits (frame_of c.args.frame.now))) [] c.new-steps.result.items (ap (map answered_of) c.new-steps.ensures.items)

pub loop-of_body-preserved : goal.loop-of_body-preserved
loop-of_body-preserved g c =
    let f = hide_answer (test_of c.args.test.now) (under_limits (frame_of c.args.frame.now)) in
    let now = c.loop-of_body.steps.items in
    let more = c.push.new.self.items in
    let of_body = c.in-Some.of_body in
    one_collected f [] now more c.loop-of_body.yielded of_body c.loop-of_body.invariant
    (one_pushed now more c.in_ok-step.field-0 (f (action_of of_body.action) (target_of of_body.target)) c.in_ok-step.ensures c.in_ok-push.ensures.items)

pub returns : goal.returns
returns g c =
    let items = c.args.body.items in
    let given = c.into_iter-of_body-iterator.ensures.into_iter_gives in
    let yielded = c.loop-of_body.yielded in
    let t = YieldsList-end (YieldsList-from_vec {s = c.into_iter-of_body-iterator.result} items given.0 (given.1 ∙ c.args.body.ok.0)) yielded c.loop-of_body.of_body-iterator c.loop-of_body.yielded_by c.next.result c.next.new.self c.in-None.is c.next.ensures.steps in
    c.loop-of_body.invariant ∙ ap (λ xs. each_answer (hide_answer (test_of c.args.test.now) (under_limits (frame_of c.args.frame.now))) (map answered_of xs)) (yielded_all yielded items t.0)
