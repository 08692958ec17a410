-- The replay that is told is one of a violation.
use Rattle.std.proofs.Common.{◌≡◌, refl}
use Rattle.theory_syntax.specs.Readings.{by_tau}
use Rattle.theory_semantics.specs.Meaning.Runs.{trace}
use Rattle.theory_spread_runs.proofs.Showing.{replay_shows}
use Rattle.theory_spread_runs.proofs.Spreading.{spread_trace}
use Rattle.theory_explanation.specs.Counterexamples.{by_path}
use Rattle.theory_explanation.proofs.spread_counterexamples_show_violations.Goals as goal

pub returns : goal.returns
returns c = λ script written a v n longer found is like.
    let traces : trace longer ≡ trace v.path = spread_trace (by_tau script) is.spread in
    (replay_shows script written (by_path longer v) v found.states like traces refl is.told.replay, traces)
