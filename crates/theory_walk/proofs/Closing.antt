-- States on trails are terms of the script.
use Rattle.std.proofs.Common.{◌≡◌, ℕ, zero, suc, List, [], ◌∷◌, ◌++◌, slice_get, Some, subst}
use Rattle.theory_syntax.specs.Process.{Process, Script}
use Rattle.theory_semantics.specs.Kinds.Scripts.{IsTermOf}
use Rattle.theory_semantics.proofs.KindedSteps.{run_closed}
use Rattle.theory_walk.specs.Moves.{IsMenu, Menu, Move, moves_in}
use Rattle.theory_walk.specs.Trails.{AreTaken, behind}
use Rattle.theory_walk.proofs.Along.{IsTaken, behind_more, taken_more, taken_reach}
use Rattle.theory_walk.proofs.Going.{AreSteps, steps_of_menu}

pub closed_behind : (script : Script) (start : Process) (moves : List Move) → IsTermOf script start → AreTaken script start moves → IsTermOf script (behind start moves)
closed_behind script start moves h taken =
    let reached = taken_reach script start moves taken in
    (h.0, h.1, run_closed script h.0 h.1.sets h.1.equations reached.0 start (behind start moves) reached.1 h.2)

step_at : (script : Script) (t : Process) (moves : List Move) (i : ℕ) (m : Move) → AreSteps script t moves → slice_get moves i ≡ Some m → IsTaken script t m
step_at script t [] i m are at = absurd (cc at)
step_at script t (k ∷ moves) zero m are at = let f : Some k ≡ Some m = at in subst (IsTaken script t) (cc f) are.0
step_at script t (k ∷ moves) (suc i) m are at = step_at script t moves i m are.1 at

-- a move of the menu may be taken
pub move_taken : (script : Script) (start : Process) (moves : List Move) (menu : Menu) (i : ℕ) (m : Move) → AreTaken script start moves → IsMenu script (behind start moves) menu → slice_get (moves_in menu) i ≡ Some m →
    AreTaken script start (moves ++ m ∷ [])
move_taken script start moves menu i m taken is at =
    taken_more script start moves m taken (step_at script (behind start moves) (moves_in menu) i m (steps_of_menu script (behind start moves) menu is) at)

pub move_closed : (script : Script) (start : Process) (moves : List Move) (menu : Menu) (i : ℕ) (m : Move) → IsTermOf script start → AreTaken script start moves → IsMenu script (behind start moves) menu → slice_get (moves_in menu) i ≡ Some m →
    IsTermOf script m.target
move_closed script start moves menu i m h taken is at =
    subst (IsTermOf script) (behind_more start moves m) (closed_behind script start (moves ++ m ∷ []) h (move_taken script start moves menu i m taken is at))
