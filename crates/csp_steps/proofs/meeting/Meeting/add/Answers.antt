-- Each step of the left side, in turn.
use Rattle.std.proofs.Common.{Option, List, map, refl, arith}
use Rattle.theory_syntax.specs.Value.{Action}
use Rattle.theory_syntax.specs.Process.{Process}
use Rattle.csp_steps.specs.Answering.{Answered, answered_of}
use Rattle.csp_steps.specs.Composing.{composition_of, each_answer, meet_answer}
use Rattle.csp_steps.specs.Sharing.{is_shared}
use Rattle.csp_steps.proofs.Collecting.{all_taken, none_collected, one_taken}
use Rattle.csp_steps.proofs.meeting.Meeting.add.Goals as goal

pub loop-step-init : goal.loop-step-init
loop-step-init g c =
    let f : Action → Option Process → List Answered = λ x t. each_answer (meet_answer (is_shared c.args.self.sharing.now) (composition_of c.args.self.composition.now) x t) (map answered_of c.args.self.right.now) in
    none_collected f (map answered_of c.args.steps.now.items) c.args.steps.now.items refl

pub loop-step-preserved : goal.loop-step-preserved
loop-step-preserved g c =
    let f : Action → Option Process → List Answered = λ x t. each_answer (meet_answer (is_shared c.args.self.sharing.now) (composition_of c.args.self.composition.now) x t) (map answered_of c.args.self.right.now) in
    one_taken f (map answered_of c.args.steps.now.items) c.loop-step.steps.items c.add_with.new.steps.items c.args.left.now c.loop-step.step-index c.step-item.result c.loop-step-test.true c.step-item.is c.loop-step.invariant c.in_ok-add_with.ensures

pub returns : goal.returns
returns g c =
    let f : Action → Option Process → List Answered = λ x t. each_answer (meet_answer (is_shared c.args.self.sharing.now) (composition_of c.args.self.composition.now) x t) (map answered_of c.args.self.right.now) in
    all_taken f (map answered_of c.args.steps.now.items) c.loop-step.steps.items c.args.left.now c.loop-step.step-index (omega arith) c.loop-step.invariant
