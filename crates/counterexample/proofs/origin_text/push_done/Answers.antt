-- Each part is put one after the other.
use Rattle.std.proofs.Common.{◌++◌}
use Rattle.std.specs.String.{string_bytes}
use Rattle.csp_value.specs.Action.{event_of}
use Rattle.csp_moves.specs.Origin.{origin_of}
use Rattle.theory_origins.specs.Doers.{doers}
use Rattle.theory_explanation.specs.Actions.{event_text}
use Rattle.theory_explanation.specs.Legend.{name_here}
use Rattle.theory_explanation.specs.Origins.{doers_text}
use Rattle.csp_print.proofs.Writing.{behind}
use Rattle.counterexample.specs.PartNames.{legend_of}
use Rattle.counterexample.proofs.origin_text.push_done.Goals as goal

pub returns : goal.returns
returns g c =
    let legend = legend_of c.args.legend.now in
    let r = c.push_doers.result in
    let start = string_bytes c.args.text.now in
    let zero = string_bytes c.push_name_here.new.text in
    let one = string_bytes c.push_mark.new.text in
    let two = string_bytes c.push_event.new.text in
    let all = string_bytes c.push_doers.new.text in
    let event = event_text legend.names (event_of c.args.event.now) in
    let sides = doers_text legend (event_of c.args.event.now) (doers (origin_of c.args.part.now)) in
    behind r start zero all (name_here legend) (c.args.mark.now ++ (event ++ sides)) c.in_ok-push_name_here.ensures
    (behind r zero one all c.args.mark.now (event ++ sides) c.in_ok-push_mark.ensures
    (behind r one two all event sides c.in_ok-push_event.ensures c.push_doers.ensures))
