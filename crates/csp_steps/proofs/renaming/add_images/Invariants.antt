-- What is added so far is by the images so far.
use Rattle.std.proofs.Common.{◌≡◌, ◌++◌, map}
use Rattle.csp_value.specs.Action.{event_of}
use Rattle.csp_steps.specs.Answering.{answered_of, target_of}
use Rattle.csp_steps.specs.Composing.{image_answers}
use Rattle.csp_steps.proofs.renaming.add_images.Given as goal

abbrev pub invariant-loop-image : goal.invariant-loop-image
invariant-loop-image g l = map answered_of l.steps.items ≡ map answered_of l.fn.steps.items ++ image_answers (target_of l.fn.target) (map event_of l.yielded)
