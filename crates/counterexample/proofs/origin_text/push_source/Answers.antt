-- Behind a tick nothing is told.
use Rattle.std.proofs.Common.{◌++◌, option_map, sym, ◌∙◌, ap, append-nil}
use Rattle.std.specs.String.{string_bytes}
use Rattle.csp_value.specs.Action.{action_of}
use Rattle.csp_value.specs.declared.action.Action.{Action}
use Rattle.csp_moves.specs.Origin.{origin_of}
use Rattle.theory_explanation.specs.Origins.{source_text}
use Rattle.counterexample.specs.PartNames.{legend_of}
use Rattle.counterexample.proofs.origin_text.push_source.Goals as goal

pub returns-in-Tick : goal.returns-in-Tick
returns-in-Tick g c =
    let start = string_bytes c.args.text.now in
    let legend = legend_of c.args.legend.now in
    let origin = option_map origin_of c.args.origin.now in
    sym (append-nil start) ∙ ap (λ (x : Action g.row.A.Denot). start ++ source_text legend (action_of x) origin) (sym c.in-Tick.is)
