use Rattle.theory_spread_runs.proofs.Showing.{replay_shows}
use Rattle.theory_spread_runs.proofs.spread.spread_replays_show_violations.Goals as goal

pub returns : goal.returns
returns c = replay_shows
