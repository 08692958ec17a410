-- What is added so far is by the steps so far.
use Rattle.std.proofs.Common.{map}
use Rattle.csp_steps.specs.Answering.{answered_of}
use Rattle.csp_steps.specs.Composing.{around_of, leave_answer}
use Rattle.csp_steps.proofs.Collecting.{Collected}
use Rattle.csp_steps.proofs.leave.add.Given as goal

abbrev pub invariant-loop-of_side : goal.invariant-loop-of_side
invariant-loop-of_side g l = Collected (leave_answer (around_of l.fn.context)) (map answered_of l.fn.steps.items) l.steps.items l.yielded
