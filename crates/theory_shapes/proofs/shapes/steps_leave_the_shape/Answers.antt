use Rattle.theory_shapes.proofs.Leaving.{all_changes, only_parts_end}
use Rattle.theory_shapes.proofs.shapes.steps_leave_the_shape.Goals as goal

pub returns : goal.returns
returns c = record { all = all_changes; ended = only_parts_end }
