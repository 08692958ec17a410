-- Each step of the body, in turn.
use Rattle.std.proofs.Common.{[], map, ◌∙◌, ap}
use Rattle.std.proofs.lemmas.Iterator.Adapters.{YieldsList-from_vec}
use Rattle.std.proofs.lemmas.Iterator.Consumers.{YieldsList-end}
use Rattle.theory_semantics.specs.Meaning.Events.{or_itself}
use Rattle.csp_steps.specs.Answering.{answered_of}
use Rattle.csp_steps.specs.Composing.{each_answer, frame_of, rename_answer, under_limits}
use Rattle.csp_events.specs.Imaging.{found_images}
use Rattle.csp_steps.proofs.Collecting.{none_collected, yielded_all, one_collected}
use Rattle.csp_steps.proofs.renaming.renamed.Goals as goal

pub loop-of_body-init : goal.loop-of_body-init
loop-of_body-init g c = none_collected (rename_answer (λ e. or_itself e (found_images c.args.images.now e)) (under_limits (frame_of c.args.frame.now))) [] c.new-steps.result.items (ap (map answered_of) c.new-steps.ensures.items)

pub loop-of_body-preserved : goal.loop-of_body-preserved
loop-of_body-preserved g c =
    let f = rename_answer (λ e. or_itself e (found_images c.args.images.now e)) (under_limits (frame_of c.args.frame.now)) in
    one_collected f [] c.loop-of_body.steps.items c.add_one.new.steps.items c.loop-of_body.yielded c.in-Some.of_body c.loop-of_body.invariant c.in_ok-add_one.ensures

pub returns : goal.returns
returns g c =
    let items = c.args.body.items in
    let given = c.into_iter-of_body-iterator.ensures.into_iter_gives in
    let yielded = c.loop-of_body.yielded in
    let t = YieldsList-end (YieldsList-from_vec {s = c.into_iter-of_body-iterator.result} items given.0 (given.1 ∙ c.args.body.ok.0)) yielded c.loop-of_body.of_body-iterator c.loop-of_body.yielded_by c.next.result c.next.new.self c.in-None.is c.next.ensures.steps in
    c.loop-of_body.invariant ∙ ap (λ xs. each_answer (rename_answer (λ e. or_itself e (found_images c.args.images.now e)) (under_limits (frame_of c.args.frame.now))) (map answered_of xs)) (yielded_all yielded items t.0)
