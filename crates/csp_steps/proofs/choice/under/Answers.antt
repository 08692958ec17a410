-- What the left side does, and what the right one does.
use Rattle.std.proofs.Common.{Option, inl, inr, lit<}
use Rattle.theory_syntax.specs.Process.{Process}
use Rattle.csp_steps.specs.Answering.{target_of}
use Rattle.csp_steps.specs.Composing.{composition_of, each_answer, leave_answer, side_answers, under_both}
use Rattle.csp_steps.proofs.Collecting.{both_from_none}
use Rattle.csp_steps.proofs.choice.under.Goals as goal

pub returns-clause-steps : goal.returns-clause-steps
returns-clause-steps g c =
    let o = target_of c.args.left.process in
    let r = target_of c.args.right.process in
    let made = composition_of c.args.composition.now in
    let from_left : Option Process → Option Process = λ t. under_both made t r in
    let from_right : Option Process → Option Process = λ u. under_both made o u in
    both_from_none c.new-steps.result.items c.add.new.steps.items c.add-2.new.steps.items (each_answer (leave_answer from_left) (side_answers c.args.left)) (each_answer (leave_answer from_right) (side_answers c.args.right))
    c.new-steps.ensures.items c.in_ok-add.ensures c.in_ok-add-2.ensures

pub add-requires : goal.add-requires
add-requires g c = elim g.met.A.AllocHandle.small [ inl e ↦ rw (e.0, e.1) (lit< tt) | inr e ↦ rw (e.0, e.1) (lit< tt) ]

pub add-requires-2 : goal.add-requires-2
add-requires-2 g c = elim g.met.A.AllocHandle.small [ inl e ↦ rw (e.0, e.1) (lit< tt) | inr e ↦ rw (e.0, e.1) (lit< tt) ]

pub drop-steps-requires-room-T-Destruct : goal.drop-steps-requires-room-T-Destruct
drop-steps-requires-room-T-Destruct g c κs within = elim g.met.A.AllocHandle.small [ inl e ↦ rw (e.0, e.1) (lit< tt) | inr e ↦ rw (e.0, e.1) (lit< tt) ]

pub drop-right-requires-in_err-add-room-T-Destruct : goal.drop-right-requires-in_err-add-room-T-Destruct
drop-right-requires-in_err-add-room-T-Destruct g c κs within = elim g.met.A.AllocHandle.small [ inl e ↦ rw (e.0, e.1) (lit< tt) | inr e ↦ rw (e.0, e.1) (lit< tt) ]

pub drop-steps-requires-in_err-add-2-room-T-Destruct : goal.drop-steps-requires-in_err-add-2-room-T-Destruct
drop-steps-requires-in_err-add-2-room-T-Destruct g c κs within = elim g.met.A.AllocHandle.small [ inl e ↦ rw (e.0, e.1) (lit< tt) | inr e ↦ rw (e.0, e.1) (lit< tt) ]

pub drop-steps-requires-in_err-process-room-T-Destruct : goal.drop-steps-requires-in_err-process-room-T-Destruct
drop-steps-requires-in_err-process-room-T-Destruct g c κs within = elim g.met.A.AllocHandle.small [ inl e ↦ rw (e.0, e.1) (lit< tt) | inr e ↦ rw (e.0, e.1) (lit< tt) ]
