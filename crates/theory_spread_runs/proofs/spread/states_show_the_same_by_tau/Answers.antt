use Rattle.theory_spread_runs.proofs.Showing.{shown_by_tau}
use Rattle.theory_spread_runs.proofs.spread.states_show_the_same_by_tau.Goals as goal

pub returns : goal.returns
returns c = shown_by_tau
