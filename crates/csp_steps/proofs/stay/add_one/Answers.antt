-- The room for what is passed on, and that an event which the side does not do alone adds nothing.
use Rattle.std.proofs.Common.{inl, inr, lit<, ◌∷◌, ◌++◌, [], cond, sym, ◌∙◌, ap, append-nil}
use Rattle.theory_syntax.specs.Value.{Ev}
use Rattle.csp_value.specs.Action.{action_of, event_of}
use Rattle.csp_steps.specs.Answering.{answers_of, target_of}
use Rattle.csp_steps.specs.Composing.{around_of}
use Rattle.csp_steps.specs.Sharing.{alone_answer}
use Rattle.csp_steps.proofs.stay.add_one.Goals as goal

pub add_end-requires : goal.add_end-requires
add_end-requires g c = elim g.met.A.AllocHandle.small [ inl e ↦ rw (e.0, e.1) (lit< tt) | inr e ↦ rw (e.0, e.1) (lit< tt) ]

pub add_around-requires : goal.add_around-requires
add_around-requires g c = elim g.met.A.AllocHandle.small [ inl e ↦ rw (e.0, e.1) (lit< tt, lit< tt) | inr e ↦ rw (e.0, e.1) (lit< tt, lit< tt) ]

pub is_free-requires : goal.is_free-requires
is_free-requires g c = elim g.met.A.AllocHandle.small [ inl e ↦ rw (e.0, e.1) (lit< tt, c.requires) | inr e ↦ rw (e.0, e.1) (lit< tt, c.requires) ]

pub add_around-requires-then-is_free : goal.add_around-requires-then-is_free
add_around-requires-then-is_free g c = elim g.met.A.AllocHandle.small [ inl e ↦ rw (e.0, e.1) (lit< tt, lit< tt) | inr e ↦ rw (e.0, e.1) (lit< tt, lit< tt) ]

pub array_drop-event-requires : goal.array_drop-event-requires
array_drop-event-requires g c = elim g.met.A.AllocHandle.small [ inl e ↦ rw (e.0, e.1) (lit< tt) | inr e ↦ rw (e.0, e.1) (lit< tt) ]

pub returns-else-is_free : goal.returns-else-is_free
returns-else-is_free g c =
    let follows = alone_answer c.args.sharing.now c.args.after c.args.context in
    let target = target_of c.args.step.target in
    let alone = (Ev (event_of c.in-Event.event), around_of c.args.context target) ∷ [] in
    let of_event = ap (λ x. follows (action_of x) target) c.in-Event.is in
    let none = of_event ∙ ap (λ b. cond b alone []) (sym c.is_free.ensures ∙ c.if-is_free.false) in
    sym (ap (λ more. answers_of c.args.steps.now ++ more) none ∙ append-nil (answers_of c.args.steps.now))
