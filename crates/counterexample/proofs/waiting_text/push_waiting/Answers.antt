-- Each part is put one after the other.
use Rattle.std.proofs.Common.{◌≡◌, ◌++◌, List, map, subst, inl, inr, lit≤}
use Rattle.std.specs.Prelude.{codes}
use Rattle.std.specs.String.{string_bytes}
use Rattle.csp_value.specs.Action.{action_of}
use Rattle.csp_value.specs.declared.action.Action.{Action}
use Rattle.csp_term.specs.Term.{process_of}
use Rattle.csp_moves.specs.Passage.{side_of}
use Rattle.csp_moves.specs.declared.passage.Side.{Side}
use Rattle.theory_notation.specs.Processes.{process_text}
use Rattle.theory_explanation.specs.Counterparts.{set_text}
use Rattle.theory_explanation.specs.Cutting.{cut}
use Rattle.theory_explanation.specs.Legend.{legend, part_text}
use Rattle.theory_explanation.specs.Steps.{state_line}
use Rattle.csp_print.proofs.Writing.{behind}
use Rattle.counterexample.specs.PartNames.{part_names_listed}
use Rattle.counterexample.specs.Styles.{style_of}
use Rattle.counterexample.proofs.waiting_text.push_waiting.Goals as goal

pub returns : goal.returns
returns g c =
    let style = style_of c.args.style.now in
    let w = c.args.part.now in
    let r = c.push_state.result in
    let start = string_bytes c.args.text.now in
    let one = string_bytes c.push_mark.new.text in
    let two = string_bytes c.push_part.new.text in
    let three = string_bytes c.push_mark-2.new.text in
    let four = string_bytes c.push_set.new.text in
    let five = string_bytes c.push_mark-3.new.text in
    let all = string_bytes c.push_state.new.text in
    let at = legend style.names (part_names_listed c.args.parts.now) in
    let way = part_text at (map side_of w.way.items) in
    let set = set_text style.names (map action_of w.initials.items) in
    let line = state_line (cut style.width (process_text style.names (process_of w.process))) in
    let W : List Side → Type 0 = λ xs. two ≡ one ++ part_text at (map side_of xs) in
    let S : List (Action g.row.A.Denot) → Type 0 = λ xs. four ≡ three ++ set_text style.names (map action_of xs) in
    behind r start one all (codes "  by itself ") (way ++ (codes " can do " ++ (set ++ (codes "\n" ++ line)))) c.in_ok-push_mark.ensures
    (behind r one two all way (codes " can do " ++ (set ++ (codes "\n" ++ line))) (subst W c.deref.ensures.value c.in_ok-push_part.ensures)
    (behind r two three all (codes " can do ") (set ++ (codes "\n" ++ line)) c.in_ok-push_mark-2.ensures
    (behind r three four all set (codes "\n" ++ line) (subst S c.deref-2.ensures.value c.in_ok-push_set.ensures)
    (behind r four five all (codes "\n") line c.in_ok-push_mark-3.ensures c.push_state.ensures))))

pub push_set-requires : goal.push_set-requires
push_set-requires g c = elim g.met.A.AllocHandle.small [ inl e ↦ rw (e.0, e.1) (search (lit≤)) | inr e ↦ rw (e.0, e.1) (search (lit≤)) ]
