use Rattle.csp_numbers.proofs.OperatorsByNumbers.{composition_values}
use Rattle.csp_numbers.proofs.laws.compositions_have_values_without_a_cause.Goals as goal

pub returns : goal.returns
returns c = composition_values
