-- What is there so far is by the steps so far.
use Rattle.std.proofs.Common.{[]}
use Rattle.theory_semantics.specs.Meaning.Events.{or_itself}
use Rattle.csp_steps.specs.Composing.{frame_of, rename_answer, under_limits}
use Rattle.csp_events.specs.Imaging.{found_images}
use Rattle.csp_steps.proofs.Collecting.{Collected}
use Rattle.csp_steps.proofs.renaming.renamed.Given as goal

abbrev pub invariant-loop-of_body : goal.invariant-loop-of_body
invariant-loop-of_body g l = Collected (rename_answer (λ e. or_itself e (found_images l.fn.images e)) (under_limits (frame_of l.fn.frame))) [] l.steps.items l.yielded
