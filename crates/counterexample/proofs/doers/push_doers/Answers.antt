-- The parts from the process itself on.
use Rattle.std.proofs.Common.{List, ap, ◌∙◌}
use Rattle.std.specs.String.{string_bytes}
use Rattle.csp_value.specs.Action.{event_of}
use Rattle.theory_origins.specs.Doers.{doers}
use Rattle.theory_explanation.specs.Origins.{doers_text}
use Rattle.csp_moves.specs.Origin.{origin_of}
use Rattle.csp_print.proofs.Writing.{alike}
use Rattle.counterexample.specs.Doers.{doers_listed}
use Rattle.counterexample.specs.declared.doers.Doer.{Doer}
use Rattle.counterexample.specs.PartNames.{legend_of}
use Rattle.counterexample.proofs.DoersBehind.{behind_no_way}
use Rattle.counterexample.proofs.doers.push_doers.Goals as goal

pub returns : goal.returns
returns g c =
    let same = ap (λ (ds : List (Doer g.row.A.Denot)). doers_listed ds) c.deref.ensures.value ∙ c.in_ok-all.ensures ∙ behind_no_way (doers (origin_of c.args.origin.now)) in
    alike c.push_all.result (string_bytes c.args.text.now) (string_bytes c.push_all.new.text) _ _ (ap (doers_text (legend_of c.args.legend.now) (event_of c.args.seen.now)) same) c.push_all.ensures
