-- The statuses of outcomes.
use Rattle.std.proofs.Common.{◌≤◌, List, [], ◌∷◌, arith}
use Rattle.theory_search.specs.Outcome.{Outcome, Holds, Fails, Unknown, Denied}
use Rattle.program.specs.Running.{outcome_status, status_of}

outcome_at_most : (o : Outcome) → outcome_status o ≤ 2
outcome_at_most Holds = omega arith
outcome_at_most (Fails v) = omega arith
outcome_at_most (Unknown why) = omega arith
outcome_at_most Denied = omega arith

-- no status of outcomes is that of a refusal
pub status_at_most : (os : List Outcome) → status_of os ≤ 2
status_at_most [] = omega arith
status_at_most (o ∷ os) = let one = outcome_at_most o in let others = status_at_most os in omega arith
