-- Each part is put one after the other.
use Rattle.std.proofs.Common.{◌++◌}
use Rattle.std.specs.Prelude.{codes}
use Rattle.std.specs.String.{string_bytes}
use Rattle.csp_value.specs.Action.{event_of}
use Rattle.theory_explanation.specs.Actions.{event_text}
use Rattle.theory_explanation.specs.Legend.{name_here}
use Rattle.csp_print.proofs.Writing.{behind}
use Rattle.counterexample.specs.PartNames.{legend_of}
use Rattle.counterexample.proofs.origin_text.push_seen.Goals as goal

pub returns : goal.returns
returns g c =
    let legend = legend_of c.args.legend.now in
    let r = c.push_event.result in
    let start = string_bytes c.args.text.now in
    let zero = string_bytes c.push_name_here.new.text in
    let one = string_bytes c.push_mark.new.text in
    let all = string_bytes c.push_event.new.text in
    let event = event_text legend.names (event_of c.args.event.now) in
    behind r start zero all (name_here legend) (codes ": " ++ event) c.in_ok-push_name_here.ensures
    (behind r zero one all (codes ": ") event c.in_ok-push_mark.ensures c.push_event.ensures)
