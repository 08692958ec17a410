use Rattle.theory_shapes.proofs.Accepting.{accepted_exactly}
use Rattle.theory_shapes.proofs.Fired.{fired_are_known}
use Rattle.theory_shapes.proofs.shapes.accepted_by_parts.Goals as goal

pub returns : goal.returns
returns c = λ script s parts known ms is free. accepted_exactly script s parts known ms is.filled (fired_are_known script s parts known is.fired) is.changing free
