use Rattle.theory_semantics.proofs.WorkedRows.{tick_is_a_signal}
use Rattle.theory_semantics.proofs.tick_as_a_signal.Goals as goal

pub returns : goal.returns
returns c = tick_is_a_signal
