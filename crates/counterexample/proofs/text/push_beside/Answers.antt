-- The text by what the specification has.
use Rattle.std.proofs.Common.{◌≡◌, List, [], Vec, Some, ◌++◌, map, sym, ◌∙◌, ap, inl, inr, lit≤}
use Rattle.std.specs.Prelude.{codes}
use Rattle.std.specs.String.{string_bytes}
use Rattle.csp_value.specs.Action.{action_of}
use Rattle.csp_value.specs.declared.action.Action.{Action}
use Rattle.csp_term.specs.Term.{process_of}
use Rattle.csp_term.specs.declared.term.Term.{Term}
use Rattle.verdict.specs.Outcome.{violation_of}
use Rattle.theory_explanation.specs.Comparing.{text_beside}
use Rattle.theory_explanation.specs.Counterparts.{lack_text}
use Rattle.theory_explanation.specs.Steps.{run_text}
use Rattle.csp_print.proofs.Writing.{alike, behind}
use Rattle.csp_replay.specs.Along.{states_listed}
use Rattle.csp_replay.specs.Offers.{offers_listed}
use Rattle.counterexample.specs.Counterexample.{counterpart_of, origins_listed}
use Rattle.counterexample.specs.declared.counterparts.Counterpart.{Counterpart}
use Rattle.counterexample.specs.Styles.{style_of}
use Rattle.counterexample.proofs.Putting.{put_behind}
use Rattle.counterexample.proofs.text.push_beside.Goals as goal

pub push_lack-requires : goal.push_lack-requires
push_lack-requires g c = elim g.met.A.AllocHandle.small [ inl e ↦ rw (e.0, e.1) (search (lit≤)) | inr e ↦ rw (e.0, e.1) (search (lit≤)) ]

pub returns-in_ok-push_run-in-Along : goal.returns-in_ok-push_run-in-Along
returns-in_ok-push_run-in-Along g c =
    let style = style_of c.args.style.now in
    let v = violation_of c.args.shown.now in
    let states = c.args.run.now.states.now in
    let origins = origins_listed c.args.run.now.origins.now in
    let along = c.in-Along.along.items in
    let initials = c.in-Along.initials.items in
    let acceptances = c.in-Along.acceptances.items in
    let r = c.push_lack.result in
    let start = string_bytes c.args.text.now in
    let mid = string_bytes c.push_run.new.text in
    let new = string_bytes c.push_lack.new.text in
    let run = run_text style v (map process_of states) origins (states_listed along) in
    let lack = lack_text style.names v.evidence (map action_of initials) (offers_listed acceptances) in
    let first : mid ≡ start ++ run =
    c.in_ok-push_run-in-Along.ensures ∙ ap (λ (us : List (Vec (Term g.row.A.Denot) g.row.A.Denot)). start ++ run_text style v (map process_of states) origins (states_listed us)) c.deref.ensures.value in
    let same =
    ap (λ (xs : List (Action g.row.A.Denot)). lack_text style.names v.evidence (map action_of xs) (offers_listed c.deref-in-Along-2.result.now)) c.deref-in-Along.ensures.value
    ∙ ap (λ (os : List (Vec (Action g.row.A.Denot) g.row.A.Denot)). lack_text style.names v.evidence (map action_of initials) (offers_listed os)) c.deref-in-Along-2.ensures.value in
    alike r start new _ _ (ap (λ (k : Counterpart g.row.A.Denot). text_beside style v (map process_of states) origins (Some (counterpart_of k))) (sym c.in-Along.is))
    (behind r start mid new run lack first (alike r mid new _ _ same c.push_lack.ensures))

pub returns-in_ok-push_mark-in-TooManyStates : goal.returns-in_ok-push_mark-in-TooManyStates
returns-in_ok-push_mark-in-TooManyStates g c =
    let style = style_of c.args.style.now in
    let v = violation_of c.args.shown.now in
    let states = c.args.run.now.states.now in
    let origins = origins_listed c.args.run.now.origins.now in
    let start = string_bytes c.args.text.now in
    let mid = string_bytes c.push_run_alone.new.text in
    let new = string_bytes c.push_mark.new.text in
    let run = run_text style v (map process_of states) origins [] in
    let first : mid ≡ start ++ run =
    c.in_ok-push_run_alone-in-TooManyStates.ensures in
    put_behind start mid new run (codes "  along this path the specification has too many states to tell\n") first c.in_ok-push_mark-in-TooManyStates.ensures
    ∙ ap (λ (k : Counterpart g.row.A.Denot). start ++ text_beside style v (map process_of states) origins (Some (counterpart_of k))) (sym c.in-TooManyStates.is)
