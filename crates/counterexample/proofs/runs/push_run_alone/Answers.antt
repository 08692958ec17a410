-- Of no specification there are no states.
use Rattle.std.proofs.Common.{List, Vec, map, ◌∙◌, ap}
use Rattle.std.specs.String.{string_bytes}
use Rattle.csp_term.specs.Term.{process_of}
use Rattle.csp_term.specs.declared.term.Term.{Term}
use Rattle.verdict.specs.Outcome.{violation_of}
use Rattle.theory_explanation.specs.Steps.{run_text}
use Rattle.csp_print.proofs.Writing.{alike}
use Rattle.csp_replay.specs.Along.{states_listed}
use Rattle.counterexample.specs.Counterexample.{origins_listed}
use Rattle.counterexample.specs.Styles.{style_of}
use Rattle.counterexample.proofs.runs.push_run_alone.Goals as goal

pub returns : goal.returns
returns g c =
    let same =
    ap (λ (us : List (Vec (Term g.row.A.Denot) g.row.A.Denot)). run_text (style_of c.args.style.now) (violation_of c.args.shown.now) (map process_of c.args.run.now.states.now) (origins_listed c.args.run.now.origins.now) (states_listed us))
    (c.deref.ensures.value ∙ c.new-none.ensures.items) in
    alike c.push_run.result (string_bytes c.args.text.now) (string_bytes c.push_run.new.text) _ _ same c.push_run.ensures
