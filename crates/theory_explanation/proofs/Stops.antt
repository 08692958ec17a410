-- Which side is told where there is no answer.
use Rattle.std.proofs.Common.{ℕ, List, Option, Some}
use Rattle.theory_syntax.specs.Value.{Action}
use Rattle.theory_syntax.specs.Process.{Process, Assertion, Script}
use Rattle.theory_origins.specs.Origin.{Origin}
use Rattle.theory_runs.proofs.Visiting.{run_of}
use Rattle.theory_runs.specs.Stops.{IsKnownAlong}
use Rattle.theory_runs.specs.Stuck.{Hindrance}
use Rattle.theory_runs.proofs.Stops.{known_along, one_side}
use Rattle.theory_explanation.specs.Faults.{IsFound, OfImplementation, OfSpecification}

pub stop_known : (script : Script) (a : Assertion) (h : Hindrance) (n : ℕ) (path : List Action) (states : List Process) (origins : List (Option Origin)) →
    IsFound script a h n (Some (OfImplementation path states origins)) → IsKnownAlong script a path
stop_known script a h n path states origins is = known_along script a h path is.stops

pub stops_once : (script : Script) (a : Assertion) (h k : Hindrance) (n : ℕ) (path others : List Action) (states ends : List Process) (origins told : List (Option Origin)) →
    IsFound script a h n (Some (OfImplementation path states origins)) → ¬ IsFound script a k n (Some (OfSpecification others ends told))
stops_once script a h k n path others states ends origins told is (spec, same, run) =
    one_side script a spec h k path same is.stops others run.run.end (run_of script others spec run.run.end ends run.run.visits) run.run.stuck
