use Rattle.theory_origins.proofs.Ending.{ends_by_tick}
use Rattle.theory_origins.proofs.ticks_lead_to_the_end.Goals as goal

pub returns : goal.returns
returns c = ends_by_tick
