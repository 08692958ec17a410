-- The sides, the loop and the parts are put one behind the other.
use Rattle.std.proofs.Common.{◌++◌, ℕ, List, [], Option, length, map, option_map, sym, ◌∙◌, ap₂, inl, inr, lit≤, rules}
use Rattle.std.proofs.lemmas.List.{length-map}
use Rattle.std.specs.String.{string_bytes}
use Rattle.csp_value.specs.Action.{action_of}
use Rattle.csp_moves.specs.declared.origin.Origin.{Origin}
use Rattle.verdict.specs.Outcome.{violation_of}
use Rattle.theory_explanation.specs.Loops.{loop_text}
use Rattle.theory_explanation.specs.PartNames.{names_along}
use Rattle.theory_explanation.specs.Waiting.{parts_text}
use Rattle.counterexample.specs.Counterexample.{counterexample_of, loop_of, origins_listed, waiting_of}
use Rattle.counterexample.specs.Styles.{sides_text, style_of}
use Rattle.counterexample.specs.declared.waiting.Waiting.{Waiting}
use Rattle.counterexample.proofs.Putting.{put_behind}
use Rattle.counterexample.proofs.text.push_counterexample.Goals as goal

pub returns : goal.returns
returns g c =
    let style = style_of c.args.style.now in
    let v = violation_of c.args.shown.now in
    let told = c.args.counterexample.now in
    let start = string_bytes c.args.text.now in
    let one = string_bytes c.push_sides.new.text in
    let two = string_bytes c.push_looping.new.text in
    let all = string_bytes c.push_parts.new.text in
    let loop = option_map loop_of told.looping in
    let names = names_along [] (origins_listed told.origins.items) in
    let parts = λ (ws : List (Waiting g.row.A.Denot)). parts_text style names (map waiting_of ws) in
    let along = λ (os : List (Option (Origin g.row.A.Denot))). names_along [] (origins_listed os) in
    let long = c.len.ensures ∙ c.args.shown.now.path.ok.0 ∙ sym (length-map c.args.shown.now.path.items action_of) in
    let second = c.in_ok-push_looping.ensures ∙ ap₂ (λ (os : List (Option (Origin g.row.A.Denot))) (n : ℕ). one ++ loop_text style (along os) n loop) c.deref.ensures.value long in
    let third =
    c.in_ok-push_parts.ensures
    ∙ ap₂ (λ (os : List (Option (Origin g.row.A.Denot))) (ws : List (Waiting g.row.A.Denot)). two ++ parts_text style (along os) (map waiting_of ws)) c.deref-2.ensures.value c.deref-3.ensures.value in
    put_behind start one all (sides_text style v (counterexample_of told)) (loop_text style names (length v.path) loop ++ parts told.waiting.items) c.in_ok-push_sides.ensures
    (put_behind one two all (loop_text style names (length v.path) loop) (parts told.waiting.items) second third)

pub push_looping-requires : goal.push_looping-requires
push_looping-requires g c = elim g.met.A.AllocHandle.small [ inl e ↦ rw (e.0, e.1) (search (lit≤), search rules) | inr e ↦ rw (e.0, e.1) (search (lit≤), search rules) ]

pub push_parts-requires : goal.push_parts-requires
push_parts-requires g c = elim g.met.A.AllocHandle.small [ inl e ↦ rw (e.0, e.1) (search (lit≤)) | inr e ↦ rw (e.0, e.1) (search (lit≤)) ]
