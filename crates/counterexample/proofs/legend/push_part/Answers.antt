-- The way, and behind it the name.
use Rattle.std.proofs.Common.{List, ◌++◌, map, ◌∙◌, ap}
use Rattle.std.specs.String.{string_bytes}
use Rattle.csp_moves.specs.Passage.{side_of}
use Rattle.csp_moves.specs.declared.passage.Side.{Side}
use Rattle.theory_origins.specs.Origin as pure
use Rattle.theory_explanation.specs.Legend.{called, way_text}
use Rattle.theory_explanation.specs.PartNames.{name_of}
use Rattle.csp_print.proofs.Writing.{alike, behind}
use Rattle.counterexample.specs.PartNames.{legend_of}
use Rattle.counterexample.proofs.legend.push_part.Goals as goal

pub returns : goal.returns
returns g c =
    let legend = legend_of c.args.legend.now in
    let way = map side_of c.args.way.now in
    let r = c.push_called.result in
    let start = string_bytes c.args.text.now in
    let mid = string_bytes c.push_way.new.text in
    let all = string_bytes c.push_called.new.text in
    let whole = ap (λ (w : List Side). map side_of w) c.deref.ensures.value ∙ c.in_ok-whole.ensures in
    let named = c.name_of.ensures ∙ ap (λ (w : List pure.Side). name_of legend.parts w) whole in
    behind r start mid all (way_text way) (called legend.names (name_of legend.parts (legend.way ++ way))) c.in_ok-push_way.ensures
    (alike r mid all _ _ (ap (called legend.names) named) c.push_called.ensures)
