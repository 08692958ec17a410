-- Each step in turn, and the term that it leads to.
use Rattle.std.proofs.Common.{ℕ, length, sym, ◌∙◌, ap, subst, arith, inl, inr, lit<}
use Rattle.std.proofs.lemmas.Iterator.Adapters.{YieldsList-from_vec}
use Rattle.std.proofs.lemmas.Iterator.Consumers.{YieldsList-turn, YieldsList-end}
use Rattle.std.proofs.lemmas.List.{drop_all, length_push}
use Rattle.csp_value.specs.Action.{action_of}
use Rattle.csp_fire.specs.declared.form.Step.{Step}
use Rattle.csp_steps.specs.Answering.{target_of}
use Rattle.csp_fire.proofs.Within.{WithinSoFar, all_done, none_yet, one_past, one_within}
use Rattle.csp_fire.proofs.firing.steps_within.Goals as goal

pub loop-step-preserved : goal.loop-step-preserved
loop-step-preserved g c =
    let items = c.args.answered.items in
    let given = c.into_iter-step-iterator.ensures.into_iter_gives in
    let yielded = c.loop-step.yielded in
    let step = c.in-Some.step in
    let t = YieldsList-turn (YieldsList-from_vec {s = c.into_iter-step-iterator.result} items given.0 (given.1 ∙ c.args.answered.ok.0)) yielded c.loop-step.step-iterator c.loop-step.yielded_by c.next.result c.next.new.self step c.in-Some.is c.next.ensures.steps in
    let one : Step g.row.A.Denot = record { action = step.action; target = c.in-Within.target } in
    let P : ℕ → Type 0 = λ k. WithinSoFar items k c.push.new.self.items in
    subst P (sym (length_push yielded step))
    (one_within items (length yielded) step t.0 t.1 c.loop-step.steps.items c.loop-step.invariant c.push.new.self.items one (λ i. (action_of step.action, target_of (c.in-Within.is i))) c.in_ok-push-in-Within.ensures.items)

pub returns-in-Past : goal.returns-in-Past
returns-in-Past g c =
    let items = c.args.answered.items in
    let given = c.into_iter-step-iterator.ensures.into_iter_gives in
    let yielded = c.loop-step.yielded in
    let step = c.in-Some.step in
    let t = YieldsList-turn (YieldsList-from_vec {s = c.into_iter-step-iterator.result} items given.0 (given.1 ∙ c.args.answered.ok.0)) yielded c.loop-step.step-iterator c.loop-step.yielded_by c.next.result c.next.new.self step c.in-Some.is c.next.ensures.steps in
    one_past items (length yielded) step t.0 t.1 c.loop-step.steps.items c.loop-step.invariant (ap target_of c.in-Past.is)

pub returns : goal.returns
returns g c =
    let items = c.args.answered.items in
    let given = c.into_iter-step-iterator.ensures.into_iter_gives in
    let yielded = c.loop-step.yielded in
    let t = YieldsList-end (YieldsList-from_vec {s = c.into_iter-step-iterator.result} items given.0 (given.1 ∙ c.args.answered.ok.0)) yielded c.loop-step.step-iterator c.loop-step.yielded_by c.next.result c.next.new.self c.in-None.is c.next.ensures.steps in
    all_done items (length yielded) c.loop-step.steps.items (drop_all (length yielded) items (omega (arith, t.1))) c.loop-step.invariant

pub loop-step-init : goal.loop-step-init
loop-step-init g c = none_yet c.args.answered.items c.new-steps.result.items c.new-steps.ensures.items

pub array_drop-action-requires : goal.array_drop-action-requires
array_drop-action-requires g c = elim g.met.A.AllocHandle.small [ inl e ↦ rw (e.0, e.1) (lit< tt) | inr e ↦ rw (e.0, e.1) (lit< tt) ]
