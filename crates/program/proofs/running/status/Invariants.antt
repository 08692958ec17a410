use Rattle.std.proofs.Common.{◌≡◌, map, drop, max}
use Rattle.verdict.specs.Outcome.{outcome_of}
use Rattle.program.specs.Running.{status_of}
use Rattle.program.proofs.running.status.Given as goal

abbrev pub invariant-loop-outcome : goal.invariant-loop-outcome
invariant-loop-outcome g l =
    max l.status (status_of (map outcome_of (drop l.outcome-index l.outcomes))) ≡ status_of (map outcome_of l.outcomes)
