use Rattle.theory_semantics.proofs.WorkedRows.{a_least}
use Rattle.theory_semantics.proofs.event_beyond_stop.Goals as goal

pub returns : goal.returns
returns c = a_least
