use Rattle.theory_shapes.proofs.Fired.{fired_past, fired_within}
use Rattle.theory_shapes.proofs.shapes.fired_by_parts.Goals as goal

pub returns : goal.returns
returns c = record {
  within = λ script s parts known ms is. fired_within script s parts known ms is.filled is.fired is.values is.changing;
  past = λ script s parts known ms is. fired_past script s parts known ms is.filled is.fired is.values is.changing;
}
