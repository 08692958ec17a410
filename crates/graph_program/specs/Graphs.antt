-- The text of a graph that is asked for.
use Rattle.std.specs.Prelude.{◌≡◌, ◌≤◌, ℕ, List, length}
use Rattle.theory_syntax.specs.Process.{Process, Script}
use Rattle.theory_graph.specs.Graphs.{Graph, IsGraphOf}
use Rattle.theory_graph.specs.Fates.{AreFatesOf, Fate}
use Rattle.theory_graph.specs.Printing.{aldebaran_text, graphviz_text}
use Rattle.graph_settings.specs.declared.format.Format.{Format}
use Rattle.graph_settings.specs.declared.format.Format.TheVariants.{Aldebaran, Graphviz}
use Rattle.graph_program.specs.Asking.{IsStart, Request}

-- it is the graph of some term of the script
abbrev pub IsGraphIn : Script → Graph → Type 0
IsGraphIn script g = (start : Process) × IsGraphOf script start g

-- the text for Graphviz, with what becomes of each state
pub record IsDrawing (script : Script) (g : Graph) (text : List ℕ) : Type 0 where
  pub fates : List Fate
  pub are_fates : AreFatesOf script g.states fates
  pub is : text ≡ graphviz_text script fates g

-- the text of the graph in the format
abbrev pub IsTextOf : Script → Graph → Format → List ℕ → Type 0
IsTextOf script g Aldebaran text = text ≡ aldebaran_text script g
IsTextOf script g Graphviz text = IsDrawing script g text

-- The text is that of the graph of the side that is asked for, which has no more states than it may have.
pub record IsGraphText (request : Request) (script : Script) (text : List ℕ) : Type 0 where
  pub start : Process
  pub asked : IsStart request script start
  pub graph : Graph
  pub is_graph : IsGraphOf script start graph
  pub few : length graph.states ≤ request.most
  pub told : IsTextOf script graph request.format text
