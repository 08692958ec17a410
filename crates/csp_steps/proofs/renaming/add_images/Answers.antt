-- Each image, in turn.
use Rattle.std.proofs.Common.{◌++◌, map, sym, ◌∙◌, ap, inl, inr, lit<}
use Rattle.std.proofs.lemmas.List.{append-nil}
use Rattle.std.proofs.lemmas.Iterator.Adapters.{YieldsList-from_vec}
use Rattle.std.proofs.lemmas.Iterator.Consumers.{YieldsList-end}
use Rattle.csp_value.specs.Action.{event_of}
use Rattle.csp_steps.specs.Answering.{answered_of, target_of}
use Rattle.csp_steps.specs.Composing.{image_answers}
use Rattle.csp_steps.proofs.Collecting.{yielded_all}
use Rattle.csp_steps.proofs.Imaged.{one_image_more}
use Rattle.csp_steps.proofs.renaming.add_images.Goals as goal

pub loop-image-init : goal.loop-image-init
loop-image-init g c = sym (append-nil (map answered_of c.args.steps.now.items))

pub loop-image-preserved : goal.loop-image-preserved
loop-image-preserved g c =
    one_image_more (target_of c.args.target.now) (map answered_of c.args.steps.now.items) c.loop-image.steps.items c.push.new.self.items c.loop-image.yielded c.in-Some.image c.in_ok-target.target
    c.loop-image.invariant c.in_ok-target.ensures c.in_ok-push.ensures.items

pub returns : goal.returns
returns g c =
    let items = c.args.images.items in
    let given = c.into_iter-image-iterator.ensures.into_iter_gives in
    let yielded = c.loop-image.yielded in
    let t = YieldsList-end (YieldsList-from_vec {s = c.into_iter-image-iterator.result} items given.0 (given.1 ∙ c.args.images.ok.0)) yielded c.loop-image.image-iterator c.loop-image.yielded_by c.next.result c.next.new.self c.in-None.is c.next.ensures.steps in
    c.loop-image.invariant ∙ ap (λ xs. map answered_of c.args.steps.now.items ++ image_answers (target_of c.args.target.now) (map event_of xs)) (yielded_all yielded items t.0)

-- an image is of a known size
pub array_drop-image-requires : goal.array_drop-image-requires
array_drop-image-requires g c = elim g.met.A.AllocHandle.small [ inl e ↦ rw (e.0, e.1) (lit< tt) | inr e ↦ rw (e.0, e.1) (lit< tt) ]
