use Rattle.theory_shapes.proofs.Accepting.{fired_shown, parts_show}
use Rattle.theory_shapes.proofs.shapes.shown_by_parts.Goals as goal

pub returns : goal.returns
returns c = record { fired = fired_shown; covered = λ script s parts known ms offers is. parts_show script s parts known ms offers is.filled is.fired is.values is.changing }
