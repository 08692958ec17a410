-- Replays, and what is told of them.
use Rattle.std.proofs.Common.{◌≡◌, suc, List, [], ◌∷◌, length, ◌∙◌, ap}
use Rattle.theory_syntax.specs.Value.{Action}
use Rattle.theory_syntax.specs.Process.{Process, Script}
use Rattle.theory_semantics.specs.Meaning.Violations.{Violation}
use Rattle.theory_runs.specs.States.{AreReached, IsReplay, Visits}
use Rattle.theory_runs.proofs.Visiting.{reached}

-- one state before each action of a path, and one at its end
pub visits_length : (script : Script) (path : List Action) (t u : Process) (states : List Process) → Visits script t path states u → length states ≡ suc (length path)
visits_length script [] t u states visits = ap length visits.0
visits_length script (x ∷ path) t u states visits = ap length visits.2 ∙ ap suc (visits_length script path visits.0 u visits.1 visits.4)

pub replay_length : (script : Script) (p : Process) (v : Violation) (states : List Process) → IsReplay script p v states → length states ≡ suc (length v.path)
replay_length script p v states replay = visits_length script v.path p replay.end states replay.visits

pub replay_reached : (script : Script) (p : Process) (v : Violation) (states : List Process) → IsReplay script p v states → AreReached script p v.path states
replay_reached script p v states replay = reached script v.path p replay.end states replay.visits
