use Rattle.theory_spread_runs.proofs.Showing.{spread_replay}
use Rattle.theory_spread_runs.proofs.Spreading.{spread_lasso}
use Rattle.theory_spread_runs.proofs.spread.spread_replays_are_replays.Goals as goal

pub returns-clause-replays : goal.returns-clause-replays
returns-clause-replays c = spread_replay

pub returns-clause-loops : goal.returns-clause-loops
returns-clause-loops c = spread_lasso
