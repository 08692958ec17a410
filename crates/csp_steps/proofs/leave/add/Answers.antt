-- Each step of the side that moves, in turn.
use Rattle.std.proofs.Common.{◌++◌, map, refl, ◌∙◌, ap, inl, inr, lit<}
use Rattle.std.proofs.lemmas.Iterator.Adapters.{YieldsList-from_vec}
use Rattle.std.proofs.lemmas.Iterator.Consumers.{YieldsList-end}
use Rattle.csp_value.specs.Action.{action_of}
use Rattle.csp_steps.specs.Answering.{answered_of, target_of}
use Rattle.csp_steps.specs.Composing.{around_of, each_answer, leave_answer}
use Rattle.csp_steps.proofs.Collecting.{none_collected, yielded_all, one_collected, one_pushed}
use Rattle.csp_steps.proofs.leave.add.Goals as goal

pub loop-of_side-init : goal.loop-of_side-init
loop-of_side-init g c = none_collected (leave_answer (around_of c.args.context)) (map answered_of c.args.steps.now.items) c.args.steps.now.items refl

pub loop-of_side-preserved : goal.loop-of_side-preserved
loop-of_side-preserved g c =
    let f = leave_answer (around_of c.args.context) in
    let before = map answered_of c.args.steps.now.items in
    let now = c.loop-of_side.steps.items in
    let more = c.push.new.self.items in
    let of_side = c.in-Some.of_side in
    one_collected f before now more c.loop-of_side.yielded of_side c.loop-of_side.invariant
    (one_pushed now more c.in_ok-step.field-0 (f (action_of of_side.action) (target_of of_side.target)) c.in_ok-step.ensures c.in_ok-push.ensures.items)

pub returns : goal.returns
returns g c =
    let items = c.args.moves.items in
    let given = c.into_iter-of_side-iterator.ensures.into_iter_gives in
    let yielded = c.loop-of_side.yielded in
    let t = YieldsList-end (YieldsList-from_vec {s = c.into_iter-of_side-iterator.result} items given.0 (given.1 ∙ c.args.moves.ok.0)) yielded c.loop-of_side.of_side-iterator c.loop-of_side.yielded_by c.next.result c.next.new.self c.in-None.is c.next.ensures.steps in
    c.loop-of_side.invariant ∙ ap (λ xs. map answered_of c.args.steps.now.items ++ each_answer (leave_answer (around_of c.args.context)) (map answered_of xs)) (yielded_all yielded items t.0)

pub into_iter-of_side-iterator-requires-room-T-Destruct : goal.into_iter-of_side-iterator-requires-room-T-Destruct
into_iter-of_side-iterator-requires-room-T-Destruct g c κs within = elim g.met.A.AllocHandle.small [ inl e ↦ rw (e.0, e.1) (lit< tt) | inr e ↦ rw (e.0, e.1) (lit< tt) ]

pub next-requires-room-T-Destruct : goal.next-requires-room-T-Destruct
next-requires-room-T-Destruct g c κs within = elim g.met.A.AllocHandle.small [ inl e ↦ rw (e.0, e.1) (lit< tt) | inr e ↦ rw (e.0, e.1) (lit< tt) ]

pub drop-of_side-iterator-requires-room-T-Destruct : goal.drop-of_side-iterator-requires-room-T-Destruct
drop-of_side-iterator-requires-room-T-Destruct g c κs within = elim g.met.A.AllocHandle.small [ inl e ↦ rw (e.0, e.1) (lit< tt) | inr e ↦ rw (e.0, e.1) (lit< tt) ]

pub drop-of_side-iterator-requires-in_err-push-room-T-Destruct : goal.drop-of_side-iterator-requires-in_err-push-room-T-Destruct
drop-of_side-iterator-requires-in_err-push-room-T-Destruct g c κs within = elim g.met.A.AllocHandle.small [ inl e ↦ rw (e.0, e.1) (lit< tt) | inr e ↦ rw (e.0, e.1) (lit< tt) ]

pub drop-of_side-iterator-requires-2-room-T-Destruct : goal.drop-of_side-iterator-requires-2-room-T-Destruct
drop-of_side-iterator-requires-2-room-T-Destruct g c κs within = elim g.met.A.AllocHandle.small [ inl e ↦ rw (e.0, e.1) (lit< tt) | inr e ↦ rw (e.0, e.1) (lit< tt) ]
