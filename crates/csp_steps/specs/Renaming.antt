-- What is answered of renamed steps.
use Rattle.std.specs.Prelude.{List, Option}
use Rattle.theory_syntax.specs.Process.{Process}
use Rattle.theory_syntax.specs.Value.{Action, Event}
use Rattle.theory_semantics.specs.Meaning.Events.{or_itself}
use Rattle.csp_events.specs.declared.images.Images.{Images}
use Rattle.csp_events.specs.Imaging.{found_images}
use Rattle.csp_steps.specs.declared.composition.Frame.{Frame}
use Rattle.csp_steps.specs.Answering.{Answered}
use Rattle.csp_steps.specs.Composing.{rename_answer, under_frame}

-- the images of an event, or itself where it has none
abbrev pub images_of : {A : Type 0} → Images A → Event → List Event
images_of images e = or_itself e (found_images images e)

-- what is made of a step of the body, by the images of its event
abbrev pub renamed_answer : {A : Type 0} → Frame A → Images A → Action → Option Process → List Answered
renamed_answer f images x t = rename_answer (images_of images) (under_frame f) x t
