-- Each step of the side that moves, in turn.
use Rattle.std.proofs.Common.{◌++◌, map, refl, ◌∙◌, ap}
use Rattle.std.proofs.lemmas.Iterator.Adapters.{YieldsList-from_vec}
use Rattle.std.proofs.lemmas.Iterator.Consumers.{YieldsList-end}
use Rattle.csp_steps.specs.Answering.{answered_of}
use Rattle.csp_steps.specs.Composing.{around_of, each_answer, stay_answer}
use Rattle.csp_steps.specs.Sharing.{ended_by, is_free}
use Rattle.csp_steps.proofs.Collecting.{none_collected, yielded_all, one_collected}
use Rattle.csp_steps.proofs.stay.add.Goals as goal

pub loop-step-init : goal.loop-step-init
loop-step-init g c = none_collected (stay_answer (is_free c.args.sharing.now c.args.context.hand) (around_of c.args.context) (ended_by c.args.after c.args.context)) (map answered_of c.args.steps.now.items) c.args.steps.now.items refl

pub loop-step-preserved : goal.loop-step-preserved
loop-step-preserved g c =
    let f = stay_answer (is_free c.args.sharing.now c.args.context.hand) (around_of c.args.context) (ended_by c.args.after c.args.context) in
    one_collected f (map answered_of c.args.steps.now.items) c.loop-step.steps.items c.add_one.new.steps.items c.loop-step.yielded c.in-Some.step c.loop-step.invariant c.in_ok-add_one.ensures

pub returns : goal.returns
returns g c =
    let items = c.args.moves.items in
    let given = c.into_iter-step-iterator.ensures.into_iter_gives in
    let yielded = c.loop-step.yielded in
    let t = YieldsList-end (YieldsList-from_vec {s = c.into_iter-step-iterator.result} items given.0 (given.1 ∙ c.args.moves.ok.0)) yielded c.loop-step.step-iterator c.loop-step.yielded_by c.next.result c.next.new.self c.in-None.is c.next.ensures.steps in
    c.loop-step.invariant
    ∙ ap (λ xs. map answered_of c.args.steps.now.items ++ each_answer (stay_answer (is_free c.args.sharing.now c.args.context.hand) (around_of c.args.context) (ended_by c.args.after c.args.context)) (map answered_of xs)) (yielded_all yielded items t.0)
