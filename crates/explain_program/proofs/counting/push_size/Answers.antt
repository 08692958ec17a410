-- The line of the size, and behind it that of the cost.
use Rattle.std.specs.String.{string_bytes}
use Rattle.theory_explanation.specs.Counting.{count_text}
use Rattle.csp_term.specs.Script.{property_of}
use Rattle.csp_print.proofs.Writing.{behind}
use Rattle.explain_program.specs.Costs.{cost_text}
use Rattle.explain_program.proofs.counting.push_size.Goals as goal

pub returns : goal.returns
returns g c =
    let size = c.args.size in
    behind c.push_cost.result (string_bytes c.args.text.now) (string_bytes c.push_count.new.text) (string_bytes c.push_cost.new.text) (count_text (property_of c.args.property.now) size.pairs size.nodes) (cost_text size.cost)
    c.in_ok-push_count.ensures c.push_cost.ensures
