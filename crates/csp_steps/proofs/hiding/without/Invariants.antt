-- What is there so far is by the steps so far.
use Rattle.std.proofs.Common.{[]}
use Rattle.csp_steps.specs.Composing.{frame_of, hide_answer, under_limits}
use Rattle.csp_events.specs.Testing.{test_of}
use Rattle.csp_steps.proofs.Collecting.{Collected}
use Rattle.csp_steps.proofs.hiding.without.Given as goal

abbrev pub invariant-loop-of_body : goal.invariant-loop-of_body
invariant-loop-of_body g l = Collected (hide_answer (test_of l.fn.test) (under_limits (frame_of l.fn.frame))) [] l.steps.items l.yielded
