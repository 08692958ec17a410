use Rattle.theory_spread_runs.proofs.Spreading.{spread_trace, spread_visits}
use Rattle.theory_spread_runs.proofs.spread.spread_runs_are_runs.Goals as goal

pub returns-clause-states : goal.returns-clause-states
returns-clause-states c = λ script other t v u path longer states more spread visits. spread_visits script other spread v u visits

pub returns-clause-traces : goal.returns-clause-traces
returns-clause-traces c = λ script t path longer states more spread. spread_trace script spread
