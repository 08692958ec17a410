-- The last state is the one behind all steps.
use Rattle.std.proofs.Common.{◌≡◌, ◌++◌, ℕ, length, map, sym, ◌∙◌, ap}
use Rattle.std.proofs.lemmas.List.{length-map}
use Rattle.std.specs.String.{string_bytes}
use Rattle.theory_syntax.specs.Process.{Process}
use Rattle.csp_term.specs.Term.{process_of}
use Rattle.theory_notation.specs.Processes.{process_text}
use Rattle.theory_explanation.specs.Folding.{state_behind}
use Rattle.theory_explanation.specs.Steps.{state_line}
use Rattle.theory_explanation.proofs.Folding.{last_is}
use Rattle.csp_print.specs.Names.{names_of}
use Rattle.csp_print.proofs.Writing.{alike}
use Rattle.counterexample.proofs.events.push_last.Goals as goal

pub returns : goal.returns
returns g c =
    let names = names_of c.args.names.now in
    let t = process_of c.args.state.now in
    let us = map process_of c.args.states.now in
    let line = λ (u : Process). state_line (process_text names u) in
    let long = sym (length-map c.args.states.now process_of) in
    alike c.push_state.result (string_bytes c.args.text.now) (string_bytes c.push_state.new.text) _ _
    (ap line (c.state_behind-last.ensures ∙ ap (λ (n : ℕ). state_behind n t us) long) ∙ sym (last_is names t us)) c.push_state.ensures
