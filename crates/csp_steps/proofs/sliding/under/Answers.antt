-- What the left side does, and then the tau to the right one.
use Rattle.std.proofs.Common.{◌∷◌, [], List, Option, inl, inr, lit<}
use Rattle.theory_syntax.specs.Process.{Process}
use Rattle.theory_syntax.specs.Value.{Tau}
use Rattle.csp_steps.specs.Answering.{Answered, target_of}
use Rattle.csp_steps.specs.Composing.{composition_of, each_answer, leave_answer, side_answers, under_both}
use Rattle.csp_steps.proofs.Collecting.{both_from_none}
use Rattle.csp_steps.proofs.sliding.under.Goals as goal

pub returns : goal.returns
returns g c =
    let r = target_of c.args.right.process in
    let made = composition_of c.args.composition.now in
    let from_left : Option Process → Option Process = λ t. under_both made t r in
    let away : List Answered = (Tau, target_of c.args.away) ∷ [] in
    both_from_none c.new-steps.result.items c.add.new.steps.items c.add_step.new.steps.items (each_answer (leave_answer from_left) (side_answers c.args.left)) away
    c.new-steps.ensures.items c.in_ok-add.ensures c.in_ok-add_step.ensures

pub add-requires : goal.add-requires
add-requires g c = elim g.met.A.AllocHandle.small [ inl e ↦ rw (e.0, e.1) (lit< tt) | inr e ↦ rw (e.0, e.1) (lit< tt) ]

pub add_step-requires : goal.add_step-requires
add_step-requires g c = elim g.met.A.AllocHandle.small [ inl e ↦ rw (e.0, e.1) (lit< tt, lit< tt) | inr e ↦ rw (e.0, e.1) (lit< tt, lit< tt) ]

pub drop-steps-requires-room-T-Destruct : goal.drop-steps-requires-room-T-Destruct
drop-steps-requires-room-T-Destruct g c κs within = elim g.met.A.AllocHandle.small [ inl e ↦ rw (e.0, e.1) (lit< tt) | inr e ↦ rw (e.0, e.1) (lit< tt) ]
