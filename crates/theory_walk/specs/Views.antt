-- How a state is shown.
use Rattle.std.specs.Prelude.{ℕ, suc, Bool, true, false, if◌then◌else◌, List, [], ◌∷◌, ◌++◌, length, codes, decimal}
use Rattle.theory_syntax.specs.Process.{Process, Omega}
use Rattle.theory_semantics.specs.Meaning.Causes.{cause_word}
use Rattle.theory_runs.specs.Stuck.{Hindrance, ByCause, BySize}
use Rattle.theory_notation.specs.Names.{Names}
use Rattle.theory_notation.specs.Processes.{process_text}
use Rattle.theory_explanation.specs.Cutting.{Width, cut}
use Rattle.theory_explanation.specs.Legend.{Legend, legend}
use Rattle.theory_explanation.specs.Steps.{state_line, step_line}
use Rattle.theory_walk.specs.Moves.{Move, Menu, Offers, Stuck}
use Rattle.theory_walk.specs.Trails.{Trail, here, part_names}

-- whether the process has ended
abbrev pub has_ended : Process → Bool
has_ended Omega = true
has_ended t = false

-- what is told where there is no move, by whether the process has ended
abbrev pub idle_line : Bool → List ℕ
idle_line true = codes "  no step: it has ended\n"
idle_line false = codes "  no step\n"

-- what is told of a state that is stuck
abbrev pub stuck_line : Hindrance → List ℕ
stuck_line (ByCause cause) = codes "  no step: refused fault " ++ (cause_word cause ++ codes "\n")
stuck_line BySize = codes "  no step: refused term\n"

-- a line for each move, numbered from n
abbrev pub move_lines : Legend → ℕ → List Move → List ℕ
move_lines l n [] = []
move_lines l n (m ∷ moves) = step_line l n m.action m.origin [] ++ move_lines l (suc n) moves

abbrev pub menu_lines : Legend → Process → Menu → List ℕ
menu_lines l t (Offers []) = idle_line (has_ended t)
menu_lines l t (Offers (m ∷ moves)) = move_lines l 1 (m ∷ moves)
menu_lines l t (Stuck by) = stuck_line by

-- The number of moves that lead there, the state, and what it offers. Parts have the names that the moves gave them.
abbrev pub view_text : Names → Width → Trail → Menu → List ℕ
view_text names width trail menu =
    codes "state " ++ (decimal (length trail.taken) ++ (codes "\n" ++
    (state_line (cut width (process_text names (here trail))) ++ menu_lines (legend names (part_names trail)) (here trail) menu)))
