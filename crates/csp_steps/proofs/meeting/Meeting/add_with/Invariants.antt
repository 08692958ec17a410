-- What is added so far is by the steps so far.
use Rattle.std.proofs.Common.{map}
use Rattle.csp_value.specs.Action.{action_of}
use Rattle.csp_steps.specs.Answering.{answered_of, target_of}
use Rattle.csp_steps.specs.Composing.{composition_of}
use Rattle.csp_steps.specs.Sharing.{is_shared}
use Rattle.csp_steps.proofs.Together.{Met}
use Rattle.csp_steps.proofs.meeting.Meeting.add_with.Given as goal

abbrev pub invariant-loop-right : goal.invariant-loop-right
invariant-loop-right g l =
    Met (action_of l.left.action) (is_shared l.fn.self.sharing.now) (composition_of l.fn.self.composition.now) (target_of l.left.target) (map answered_of l.fn.steps.items) l.steps.items l.right-items l.right-index
