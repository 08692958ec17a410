-- The text by whether there is a specification.
use Rattle.std.proofs.Common.{List, [], Option, Some, ◌++◌, map, option_map, sym, ◌∙◌, ap}
use Rattle.std.specs.String.{string_bytes}
use Rattle.csp_term.specs.Term.{process_of}
use Rattle.csp_term.specs.declared.term.Term.{Term}
use Rattle.csp_moves.specs.declared.origin.Origin.{Origin}
use Rattle.verdict.specs.Outcome.{violation_of}
use Rattle.theory_explanation.specs.Comparing.{text_beside}
use Rattle.theory_explanation.specs.Steps.{run_text}
use Rattle.csp_print.proofs.Writing.{alike}
use Rattle.counterexample.specs.Counterexample.{counterpart_of, origins_listed}
use Rattle.counterexample.specs.declared.counterparts.Counterpart.{Counterpart}
use Rattle.counterexample.specs.Styles.{style_of}
use Rattle.counterexample.proofs.text.push_sides.Goals as goal

pub returns-in-Some : goal.returns-in-Some
returns-in-Some g c =
    let style = style_of c.args.style.now in
    let v = violation_of c.args.shown.now in
    let states = c.args.counterexample.now.states.items in
    let origins = c.args.counterexample.now.origins.items in
    let told = Some (counterpart_of c.in-Some.counterpart) in
    let same =
    ap (λ (ts : List (Term g.row.A.Denot)). text_beside style v (map process_of ts) (origins_listed c.deref-2.result.now) told) c.deref.ensures.value
    ∙ ap (λ (os : List (Option (Origin g.row.A.Denot))). text_beside style v (map process_of states) (origins_listed os) told) c.deref-2.ensures.value
    ∙ ap (λ (k : Option (Counterpart g.row.A.Denot)). text_beside style v (map process_of states) (origins_listed origins) (option_map counterpart_of k)) (sym c.in-Some.is) in
    alike c.push_beside.result (string_bytes c.args.text.now) (string_bytes c.push_beside.new.text) _ _ same c.push_beside.ensures

pub returns-in_ok-push_run_alone-in-None : goal.returns-in_ok-push_run_alone-in-None
returns-in_ok-push_run_alone-in-None g c =
    let style = style_of c.args.style.now in
    let v = violation_of c.args.shown.now in
    let start = string_bytes c.args.text.now in
    let states = c.args.counterexample.now.states.items in
    let origins = c.args.counterexample.now.origins.items in
    c.in_ok-push_run_alone-in-None.ensures
    ∙ ap (λ (ts : List (Term g.row.A.Denot)). start ++ run_text style v (map process_of ts) (origins_listed c.deref-2.result.now) []) c.deref.ensures.value
    ∙ ap (λ (os : List (Option (Origin g.row.A.Denot))). start ++ run_text style v (map process_of states) (origins_listed os) []) c.deref-2.ensures.value
    ∙ ap (λ (k : Option (Counterpart g.row.A.Denot)). start ++ text_beside style v (map process_of states) (origins_listed origins) (option_map counterpart_of k)) (sym c.in-None.is)
