-- The path, and what is wrong at its end.
use Rattle.std.proofs.Common.{◌≡◌, ◌++◌, List, [], Option, map, ◌∙◌, ap, inl, inr, lit≤}
use Rattle.std.specs.String.{string_bytes}
use Rattle.csp_value.specs.Action.{action_of}
use Rattle.csp_value.specs.declared.action.Action.{Action}
use Rattle.csp_term.specs.Script.{script_of}
use Rattle.csp_term.specs.Term.{process_of}
use Rattle.csp_term.specs.declared.term.Term.{Term}
use Rattle.csp_moves.specs.declared.origin.Origin.{Origin}
use Rattle.theory_explanation.specs.Faults.{stuck_line}
use Rattle.theory_explanation.specs.Steps.{path_text}
use Rattle.csp_print.proofs.Writing.{alike, behind}
use Rattle.counterexample.specs.Counterexample.{origins_listed}
use Rattle.counterexample.specs.Styles.{style_of}
use Rattle.csp_replay.specs.Hindrance.{hindrance_of}
use Rattle.explanation.specs.Sides.{stuck_text, told_text}
use Rattle.explanation.proofs.faults.push_run.Goals as goal

pub returns : goal.returns
returns g c =
    let style = style_of c.args.style.now in
    let told = c.args.told.now in
    let states = c.deref.result.now in
    let origins = c.deref-2.result.now in
    let r = c.push_stuck.result in
    let start = string_bytes c.args.text.now in
    let one = string_bytes c.push_path.new.text in
    let all = string_bytes c.push_stuck.new.text in
    let first : one ≡ start ++ told_text style told = c.in_ok-push_path.ensures
    ∙ ap (λ (xs : List (Action g.row.A.Denot)). start ++ path_text style (map action_of xs) (map process_of states) (origins_listed origins) []) c.deref-3.ensures.value
    ∙ ap (λ (ts : List (Term g.row.A.Denot)). start ++ path_text style (map action_of told.run.path.items) (map process_of ts) (origins_listed origins) []) c.deref.ensures.value
    ∙ ap (λ (os : List (Option (Origin g.row.A.Denot))). start ++ path_text style (map action_of told.run.path.items) (map process_of told.run.states.items) (origins_listed os) []) c.deref-2.ensures.value in
    let line = λ (ts : List (Term g.row.A.Denot)). stuck_line style.names (script_of c.args.script.now) (hindrance_of c.args.hindrance) (map process_of ts) in
    behind r start one all (told_text style told) (stuck_text style (script_of c.args.script.now) (hindrance_of c.args.hindrance) told) first (alike r one all _ _ (ap line c.deref-4.ensures.value) c.push_stuck.ensures)

pub push_path-requires : goal.push_path-requires
push_path-requires g c =
    elim g.met.A.AllocHandle.small [
      | inl e ↦ rw (e.0, e.1) (lit≤ tt)
      | inr e ↦ rw (e.0, e.1) (lit≤ tt)
    ]
