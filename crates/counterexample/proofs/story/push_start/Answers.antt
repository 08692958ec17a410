-- Each part is put one after the other.
use Rattle.std.proofs.Common.{◌≡◌, ◌++◌, ℕ, length, map, sym, ◌∙◌, ap, drop}
use Rattle.std.proofs.lemmas.List.{length-map}
use Rattle.std.specs.Prelude.{codes}
use Rattle.std.specs.String.{string_bytes}
use Rattle.csp_value.specs.Action.{action_of}
use Rattle.csp_term.specs.Term.{process_of}
use Rattle.theory_notation.specs.Processes.{process_text}
use Rattle.theory_explanation.specs.Cutting.{Width, cut}
use Rattle.theory_explanation.specs.Folding.{then_text}
use Rattle.theory_explanation.specs.Steps.{state_line, width_before}
use Rattle.csp_print.specs.Names.{names_of}
use Rattle.csp_print.proofs.Writing.{alike, behind}
use Rattle.counterexample.specs.Folding.{equations_listed}
use Rattle.counterexample.specs.Styles.{style_of}
use Rattle.counterexample.proofs.story.push_start.Goals as goal

pub returns : goal.returns
returns g c =
    let r = c.push_state.result in
    let style = style_of c.args.style.now in
    let ns = equations_listed c.args.equations.now in
    let path = map action_of c.args.path.now in
    let t = process_of c.args.state.now in
    let line = λ (w : Width). state_line (cut w (process_text style.names t)) in
    let start = string_bytes c.args.text.now in
    let one = string_bytes c.push_mark.new.text in
    let two = string_bytes c.push_then.new.text in
    let three = string_bytes c.push_mark-2.new.text in
    let all = string_bytes c.push_state.new.text in
    let long = sym (length-map c.args.equations.now (λ n. n.0)) in
    let wide = c.width_behind-width.ensures ∙ ap (λ (n : ℕ). width_before style.width (drop n path)) long in
    let last = line (width_before style.width (drop (length ns) path)) in
    behind r start one all (codes "  0 start") (then_text style.names ns ++ (codes "\n" ++ last)) c.in_ok-push_mark.ensures
    (behind r one two all (then_text style.names ns) (codes "\n" ++ last) c.in_ok-push_then.ensures
    (behind r two three all (codes "\n") last c.in_ok-push_mark-2.ensures (alike r three all _ _ (ap line wide) c.push_state.ensures)))
