-- Each part is put one after the other.
use Rattle.std.proofs.Common.{◌++◌}
use Rattle.std.specs.Prelude.{codes}
use Rattle.std.specs.String.{string_bytes}
use Rattle.csp_print.proofs.Writing.{behind}
use Rattle.explain_program.specs.Costs.{time_text}
use Rattle.explain_program.proofs.costs.push_time_alone.Goals as goal

pub returns : goal.returns
returns g c =
    let r = c.push_mark-2.result in
    let one = string_bytes c.push_mark.new.text in
    let two = string_bytes c.push_time.new.text in
    let all = string_bytes c.push_mark-2.new.text in
    let amount = time_text c.args.milliseconds in
    behind r (string_bytes c.args.text.now) one all (codes "  ") (amount ++ codes "\n") c.in_ok-push_mark.ensures (behind r one two all amount (codes "\n") c.in_ok-push_time.ensures c.push_mark-2.ensures)
