-- Of an event whose origin is not known no part is told.
use Rattle.std.proofs.Common.{Option, ◌++◌, option_map, sym, ◌∙◌, ap, append-nil}
use Rattle.std.specs.String.{string_bytes}
use Rattle.theory_syntax.specs.Value.{Ev}
use Rattle.csp_value.specs.Action.{event_of}
use Rattle.csp_moves.specs.Origin.{origin_of}
use Rattle.csp_moves.specs.declared.origin.Origin.{Origin}
use Rattle.theory_explanation.specs.Origins.{source_text}
use Rattle.counterexample.specs.PartNames.{legend_of}
use Rattle.counterexample.proofs.origin_text.push_source_of_event.Goals as goal

pub returns-in-None : goal.returns-in-None
returns-in-None g c =
    let start = string_bytes c.args.text.now in
    let told = source_text (legend_of c.args.legend.now) (Ev (event_of c.args.event.now)) in
    sym (append-nil start) ∙ ap (λ (o : Option (Origin g.row.A.Denot)). start ++ told (option_map origin_of o)) (sym c.in-None.is)
