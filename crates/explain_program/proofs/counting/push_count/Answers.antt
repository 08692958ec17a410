-- Each part is put one after the other.
use Rattle.std.proofs.Common.{◌++◌}
use Rattle.std.specs.Prelude.{codes}
use Rattle.std.specs.String.{string_bytes}
use Rattle.csp_term.specs.Script.{property_of}
use Rattle.theory_explanation.specs.Counting.{nodes_text, number_text}
use Rattle.csp_print.proofs.Writing.{behind}
use Rattle.explain_program.proofs.counting.push_count.Goals as goal

pub returns : goal.returns
returns g c =
    let r = c.push_mark-2.result in
    let start = string_bytes c.args.text.now in
    let all = string_bytes c.push_mark-2.new.text in
    let one = string_bytes c.push_mark.new.text in
    let two = string_bytes c.push_amount.new.text in
    let three = string_bytes c.push_nodes.new.text in
    let pairs = number_text c.args.size.pairs (codes "pair") in
    let nodes = nodes_text (property_of c.args.property.now) c.args.size.nodes in
    behind r start one all (codes "  ") (pairs ++ (nodes ++ codes "\n")) c.in_ok-push_mark.ensures
    (behind r one two all pairs (nodes ++ codes "\n") c.in_ok-push_amount.ensures (behind r two three all nodes (codes "\n") c.in_ok-push_nodes.ensures c.push_mark-2.ensures))
