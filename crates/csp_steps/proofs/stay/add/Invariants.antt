-- What is added so far is by the steps so far.
use Rattle.std.proofs.Common.{map}
use Rattle.csp_steps.specs.Answering.{answered_of}
use Rattle.csp_steps.specs.Composing.{around_of, stay_answer}
use Rattle.csp_steps.specs.Sharing.{ended_by, is_free}
use Rattle.csp_steps.proofs.Collecting.{Collected}
use Rattle.csp_steps.proofs.stay.add.Given as goal

abbrev pub invariant-loop-step : goal.invariant-loop-step
invariant-loop-step g l = Collected (stay_answer (is_free l.fn.sharing l.fn.context.hand) (around_of l.fn.context) (ended_by l.fn.after l.fn.context)) (map answered_of l.fn.steps.items) l.steps.items l.yielded
