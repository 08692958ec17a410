-- The run, and behind it what is wrong at its end.
use Rattle.std.proofs.Common.{◌≡◌, ◌++◌, List, map, subst, inl, inr, lit≤}
use Rattle.std.specs.String.{string_bytes}
use Rattle.csp_value.specs.Action.{action_of}
use Rattle.csp_value.specs.declared.action.Action.{Action}
use Rattle.csp_term.specs.Term.{process_of}
use Rattle.verdict.specs.Outcome.{violation_of}
use Rattle.theory_explanation.specs.Ends.{end_text}
use Rattle.theory_explanation.specs.Steps.{path_text}
use Rattle.csp_print.proofs.Writing.{behind}
use Rattle.csp_replay.specs.Along.{states_listed}
use Rattle.counterexample.specs.Counterexample.{origins_listed}
use Rattle.counterexample.specs.Styles.{style_of}
use Rattle.counterexample.proofs.runs.push_run.Goals as goal

pub push_path_beside-requires : goal.push_path_beside-requires
push_path_beside-requires g c = elim g.met.A.AllocHandle.small [ inl e ↦ rw (e.0, e.1) (search (lit≤)) | inr e ↦ rw (e.0, e.1) (search (lit≤)) ]

pub returns : goal.returns
returns g c =
    let style = style_of c.args.style.now in
    let v = violation_of c.args.shown.now in
    let states = map process_of c.args.run.now.states.now in
    let origins = origins_listed c.args.run.now.origins.now in
    let along = states_listed c.args.along.now in
    let start = string_bytes c.args.text.now in
    let one = string_bytes c.push_path_beside.new.text in
    let S : List (Action g.row.A.Denot) → Type 0 = λ xs. one ≡ start ++ path_text style (map action_of xs) states origins along in
    behind c.push_end.result start one (string_bytes c.push_end.new.text) (path_text style v.path states origins along) (end_text style.names v.evidence)
    (subst S c.deref.ensures.value c.in_ok-push_path_beside.ensures) c.push_end.ensures
