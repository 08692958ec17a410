-- Each part is put one after the other.
use Rattle.std.proofs.Common.{◌++◌}
use Rattle.std.specs.Prelude.{codes}
use Rattle.std.specs.String.{string_bytes}
use Rattle.theory_explanation.specs.Legend.{name_here, side_text}
use Rattle.csp_moves.specs.Passage.{side_of}
use Rattle.csp_print.proofs.Writing.{behind}
use Rattle.counterexample.specs.PartNames.{legend_of}
use Rattle.counterexample.proofs.origin_text.push_choice.Goals as goal

pub returns : goal.returns
returns g c =
    let r = c.push_mark-2.result in
    let start = string_bytes c.args.text.now in
    let zero = string_bytes c.push_name_here.new.text in
    let one = string_bytes c.push_mark.new.text in
    let two = string_bytes c.push_side.new.text in
    let all = string_bytes c.push_mark-2.new.text in
    let side = side_text (side_of c.args.side) in
    behind r start zero all (name_here (legend_of c.args.legend.now)) (codes ": chooses its " ++ (side ++ codes " side")) c.in_ok-push_name_here.ensures
    (behind r zero one all (codes ": chooses its ") (side ++ codes " side") c.in_ok-push_mark.ensures
    (behind r one two all side (codes " side") c.in_ok-push_side.ensures c.push_mark-2.ensures))
