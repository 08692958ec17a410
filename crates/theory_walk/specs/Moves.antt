-- What a state offers.
use Rattle.std.specs.Prelude.{⊤, List, [], ◌∷◌, map, Option}
use Rattle.theory_syntax.specs.Value.{Action}
use Rattle.theory_syntax.specs.Process.{Process, Script}
use Rattle.theory_origins.specs.Origin.{Origin}
use Rattle.theory_origins.specs.Telling.{Tells}
use Rattle.theory_runs.specs.Stuck.{Hindrance, IsStuckBy}
use Rattle.theory_graph.specs.Graphs.{AreAllSteps}

-- a step that can be taken: what is done, where that comes from, and the state that it leads to
pub record Move : Type 0 where
  pub action : Action
  pub origin : Option Origin
  pub target : Process

abbrev pub step_in : Move → Action × Process
step_in m = (m.action, m.target)

-- of each move it is told where it comes from
abbrev pub AreTold : Script → Process → List Move → Type 0
AreTold script t [] = ⊤
AreTold script t (m ∷ moves) = Tells script t m.action m.target m.origin × AreTold script t moves

-- the moves are exactly the steps of the state, by action and then by target, each once
pub record AreMoves (script : Script) (t : Process) (moves : List Move) : Type 0 where
  pub steps : AreAllSteps script t (map step_in moves)
  pub told : AreTold script t moves

-- the moves of a state; or what it is stuck by, and then it has none
pub data Menu : Type 0 where
  Offers : (moves : List Move) → Menu
  Stuck : (by : Hindrance) → Menu

abbrev pub IsMenu : Script → Process → Menu → Type 0
IsMenu script t (Offers moves) = AreMoves script t moves
IsMenu script t (Stuck by) = IsStuckBy script t by

abbrev pub moves_in : Menu → List Move
moves_in (Offers moves) = moves
moves_in (Stuck by) = []
