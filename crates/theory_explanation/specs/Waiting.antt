-- What is told of the parts of a state that waits.
use Rattle.std.specs.Prelude.{ℕ, List, [], ◌∷◌, ◌++◌, codes}
use Rattle.theory_notation.specs.Processes.{process_text}
use Rattle.theory_explanation.specs.Counterexamples.{Waiting}
use Rattle.theory_explanation.specs.Counterparts.{set_text}
use Rattle.theory_explanation.specs.Cutting.{cut}
use Rattle.theory_explanation.specs.Legend.{legend, part_text}
use Rattle.theory_explanation.specs.PartNames.{PartName}
use Rattle.theory_explanation.specs.Steps.{state_line}
use Rattle.theory_explanation.specs.Styles.{Style}

-- what the part can do, and what it is, where parts have such names
abbrev pub waiting_text : Style → List PartName → Waiting → List ℕ
waiting_text style parts w = codes "  by itself " ++ (part_text (legend style.names parts) w.way ++ (codes " can do " ++ (set_text style.names w.initials ++ (codes "\n" ++ state_line (cut style.width (process_text style.names w.process))))))

abbrev pub all_waiting : Style → List PartName → List Waiting → List ℕ
all_waiting style parts [] = []
all_waiting style parts (w ∷ ws) = waiting_text style parts w ++ all_waiting style parts ws

-- A state that is one part alone has been told.
abbrev pub parts_text : Style → List PartName → List Waiting → List ℕ
parts_text style parts [] = []
parts_text style parts (w ∷ []) = []
parts_text style parts (w ∷ v ∷ ws) = all_waiting style parts (w ∷ v ∷ ws)
