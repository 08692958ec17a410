use Rattle.csp_numbers.proofs.OperatorsByNumbers.{frame_values}
use Rattle.csp_numbers.proofs.laws.frames_have_values_without_a_cause.Goals as goal

pub returns : goal.returns
returns c = frame_values
