-- Texts of graphs that are made in memory.
use Rattle.std.proofs.Common.{◌≡◌, ◌∙◌, ◌++◌, ℕ, List, [], Bool, Some, map, refl, ap}
use Rattle.theory_syntax.specs.Process.{Script}
use Rattle.theory_graph.specs.Fates as pure
use Rattle.theory_graph.specs.Graphs.{Graph}
use Rattle.theory_graph.specs.Printing.{graphviz_text}
use Rattle.report.specs.Sending.{Sends}
use Rattle.state_graph.specs.Fates.{AreFatesOfGraph, fate_of}
use Rattle.state_graph.specs.declared.fate.Fate.{Fate}
use Rattle.graph_program.specs.Graphs.{IsDrawing, IsGraphIn}

-- what an empty memory has taken is the text
pub taken : (old new text : List ℕ) (failed : Bool) → old ≡ [] → Sends (Some old) (Some new) failed text → new ≡ text
taken old new text failed empty sends = sends.bytes ∙ ap (λ xs. xs ++ text) empty

pub drawing : (script : Script) (g : Graph) (fates : List Fate) (text : List ℕ) → IsGraphIn script g → AreFatesOfGraph g fates → text ≡ graphviz_text script (map fate_of fates) g → IsDrawing script g text
drawing script g fates text graph are is = record { fates = map fate_of fates; are_fates = are script graph.0 graph.1; is = is }
