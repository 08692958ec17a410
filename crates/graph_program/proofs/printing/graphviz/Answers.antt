-- The fates are those of the states, and the text is the one that the memory has taken.
use Rattle.std.proofs.Common.{◌∙◌, List, map, ap}
use Rattle.theory_graph.specs.Printing.{graphviz_text}
use Rattle.csp_term.specs.Script.{script_of}
use Rattle.state_graph.specs.Fates.{fate_of}
use Rattle.state_graph.specs.Graphs.{graph_of}
use Rattle.graph_program.proofs.Texts.{drawing, taken}
use Rattle.graph_program.proofs.printing.graphviz.Goals as goal

pub returns-in-Ok : goal.returns-in-Ok
returns-in-Ok g c =
    let script = script_of c.args.script.now in
    let graph = graph_of c.args.graph.now in
    let lent = c.deref.result.now in
    let old = c.new-text.result.bytes.items in
    let new = c.push_graphviz.new.sink.bytes.items in
    let is = taken old new (graphviz_text script (map fate_of lent) graph) c.push_graphviz.new.sink.failed c.new-text.ensures.bytes c.in-Ok.ensures.whole in
    drawing script graph c.in_ok-fates.fates.items new c.requires c.in_ok-fates.ensures (is ∙ ap (λ fs. graphviz_text script (map fate_of fs) graph) c.deref.ensures.value)
