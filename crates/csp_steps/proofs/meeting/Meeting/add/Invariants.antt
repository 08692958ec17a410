-- What is added so far is by the steps so far.
use Rattle.std.proofs.Common.{map, take}
use Rattle.csp_steps.specs.Answering.{answered_of}
use Rattle.csp_steps.specs.Composing.{composition_of, each_answer, meet_answer}
use Rattle.csp_steps.specs.Sharing.{is_shared}
use Rattle.csp_steps.proofs.Collecting.{Collected}
use Rattle.csp_steps.proofs.meeting.Meeting.add.Given as goal

abbrev pub invariant-loop-step : goal.invariant-loop-step
invariant-loop-step g l =
    Collected (λ x t. each_answer (meet_answer (is_shared l.fn.self.sharing.now) (composition_of l.fn.self.composition.now) x t) (map answered_of l.fn.self.right.now)) (map answered_of l.fn.steps.items) l.steps.items (take l.step-index l.left)
