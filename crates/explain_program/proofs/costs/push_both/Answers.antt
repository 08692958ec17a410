-- Each part is put one after the other.
use Rattle.std.proofs.Common.{◌++◌}
use Rattle.std.specs.Prelude.{codes}
use Rattle.std.specs.String.{string_bytes}
use Rattle.csp_print.proofs.Writing.{behind}
use Rattle.explain_program.specs.Costs.{memory_text, time_text}
use Rattle.explain_program.proofs.costs.push_both.Goals as goal

pub returns : goal.returns
returns g c =
    let r = c.push_mark-3.result in
    let one = string_bytes c.push_mark.new.text in
    let two = string_bytes c.push_time.new.text in
    let three = string_bytes c.push_mark-2.new.text in
    let four = string_bytes c.push_memory.new.text in
    let all = string_bytes c.push_mark-3.new.text in
    let time = time_text c.args.milliseconds in
    let memory = memory_text c.args.kilobytes in
    behind r (string_bytes c.args.text.now) one all (codes "  ") (time ++ (codes ", " ++ (memory ++ codes "\n"))) c.in_ok-push_mark.ensures
    (behind r one two all time (codes ", " ++ (memory ++ codes "\n")) c.in_ok-push_time.ensures
    (behind r two three all (codes ", ") (memory ++ codes "\n") c.in_ok-push_mark-2.ensures (behind r three four all memory (codes "\n") c.in_ok-push_memory.ensures c.push_mark-3.ensures)))
