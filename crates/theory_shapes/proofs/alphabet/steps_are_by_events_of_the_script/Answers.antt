use Rattle.theory_syntax.specs.Value.{Ev}
use Rattle.theory_shapes.proofs.Doing.{does_events}
use Rattle.theory_shapes.proofs.alphabet.steps_are_by_events_of_the_script.Goals as goal

pub returns : goal.returns
returns c = λ script t e u step. does_events script t (Ev e) u step
