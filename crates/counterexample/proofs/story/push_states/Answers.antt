-- The start, what the specification has there, and the steps.
use Rattle.std.proofs.Common.{◌≡◌, ℕ, List, ◌++◌, length, map, sym, ◌∙◌, ap, ap₂, inl, inr, lit≤}
use Rattle.std.proofs.lemmas.List.{length-map}
use Rattle.std.specs.String.{string_bytes}
use Rattle.theory_syntax.specs.Process.{Process}
use Rattle.csp_value.specs.Action.{action_of}
use Rattle.csp_term.specs.Term.{process_of}
use Rattle.theory_explanation.specs.Folding.{folded, state_behind}
use Rattle.theory_explanation.specs.Steps.{first_text, start_line}
use Rattle.csp_print.proofs.Writing.{alike, behind}
use Rattle.csp_replay.specs.Along.{states_listed}
use Rattle.counterexample.specs.Counterexample.{origins_listed}
use Rattle.counterexample.specs.Folding.{equations_listed}
use Rattle.counterexample.specs.Stories.{steps_of}
use Rattle.counterexample.specs.Styles.{style_of}
use Rattle.counterexample.proofs.story.push_states.Goals as goal

pub returns : goal.returns
returns g c =
    let r = c.push_steps.result in
    let style = style_of c.args.style.now in
    let story = c.args.story.now in
    let path = map action_of story.path.now in
    let along = states_listed story.along.now in
    let found = c.in_ok-equations.equations in
    let ns = folded style.telling (origins_listed story.origins.now) in
    let names : equations_listed found.items ≡ ns = c.in_ok-equations.ensures in
    let many : length found.items ≡ length ns = sym (length-map found.items (λ n. n.0)) ∙ ap length names in
    let told = state_behind (length ns) (process_of story.start.now) (map process_of story.states.now) in
    let is : process_of c.state_behind-told.result.now ≡ told =
    c.state_behind-told.ensures ∙ ap (λ (n : ℕ). state_behind n (process_of story.start.now) (map process_of story.states.now)) (c.len.ensures ∙ found.ok.0 ∙ many) in
    let start = string_bytes c.args.text.now in
    let one = string_bytes c.push_start.new.text in
    let two = string_bytes c.push_first.new.text in
    let all = string_bytes c.push_steps.new.text in
    let begun : one ≡ start ++ start_line style ns told path =
    c.in_ok-push_start.ensures ∙ ap₂ (λ (es : List ℕ) (u : Process). start ++ start_line style es u path) (ap equations_listed c.deref.ensures.value ∙ names) is in
    behind r start one all (start_line style ns told path) (first_text style along ++ steps_of style story told) begun
    (behind r one two all (first_text style along) (steps_of style story told) c.in_ok-push_first.ensures (alike r two all _ _ (ap (steps_of style story) is) c.push_steps.ensures))

pub folded-requires : goal.folded-requires
folded-requires g c = elim g.met.A.AllocHandle.small [ inl e ↦ rw (e.0, e.1) (search (lit≤)) | inr e ↦ rw (e.0, e.1) (search (lit≤)) ]

pub push_start-requires : goal.push_start-requires
push_start-requires g c = elim g.met.A.AllocHandle.small [ inl e ↦ rw (e.0, e.1) (search (lit≤)) | inr e ↦ rw (e.0, e.1) (search (lit≤)) ]
