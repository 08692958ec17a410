-- What laws say of walks.
use Rattle.std.specs.Prelude.{◌≡◌, ◌↔◌, List, map, Contains, Option, Some, slice_get, ℕ}
use Rattle.theory_syntax.specs.Value.{Action}
use Rattle.theory_syntax.specs.Process.{Process, Script}
use Rattle.theory_semantics.specs.Meaning.Transitions.{Step}
use Rattle.theory_origins.specs.Origin.{Origin, ComesFrom}
use Rattle.theory_runs.specs.Runs.{IsReached}
use Rattle.theory_walk.specs.Moves.{Move, IsMenu, step_in}
use Rattle.theory_walk.specs.Trails.{AreTaken, here}
use Rattle.theory_walk.specs.Walks.{Place}

-- what is offered is what the state does, all of it
abbrev pub OfferSteps : Script → Process → List Move → Type 0
OfferSteps script t moves = (x : Action) (u : Process) → Step script t x u ↔ Contains (map step_in moves) (x, u)

-- each move comes from an origin that is told
abbrev pub HaveOrigins : Script → Process → List Move → Type 0
HaveOrigins script t moves = (i : ℕ) (m : Move) → slice_get moves i ≡ Some m → (o : Origin) × (m.origin ≡ Some o) × ComesFrom script t m.action m.target o

-- runs of the start lead to where the walk is, by the moves that were taken, and the menu is that of the state there
pub record IsOnRun (script : Script) (start : Process) (p : Place) : Type 0 where
  pub from : p.trail.start ≡ start
  pub taken : AreTaken script start p.trail.taken
  pub reached : IsReached script start (here p.trail)
  pub menu : IsMenu script (here p.trail) p.menu
