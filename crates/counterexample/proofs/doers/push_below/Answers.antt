-- Nothing, or the other event behind its mark.
use Rattle.std.proofs.Common.{◌≡◌, true, false, ◌++◌, sym, ◌∙◌, ap, append-nil}
use Rattle.std.specs.Prelude.{codes}
use Rattle.std.specs.String.{string_bytes}
use Rattle.csp_value.specs.Action.{event_of}
use Rattle.theory_explanation.specs.Actions.{event_text}
use Rattle.csp_print.specs.Names.{names_of}
use Rattle.csp_print.proofs.Writing.{alike, behind}
use Rattle.counterexample.proofs.Belows.{other_below, same_below}
use Rattle.counterexample.proofs.doers.push_below.Goals as goal

pub returns-then-equal_events : goal.returns-then-equal_events
returns-then-equal_events g c =
    let start = string_bytes c.args.text.now in
    sym (append-nil start)
    ∙ ap (λ ts. start ++ ts) (same_below (names_of c.args.names.now) (event_of c.args.seen.now) (event_of c.args.below.now) (c.equal_events.ensures.0 c.if-equal_events.true))

pub returns : goal.returns
returns g c =
    let names = names_of c.args.names.now in
    let e = event_of c.args.seen.now in
    let f = event_of c.args.below.now in
    let r = c.push_event.result in
    let start = string_bytes c.args.text.now in
    let all = string_bytes c.push_event.new.text in
    let other : e ≡ f → ⊥ = λ same. (let wrong : true ≡ false = sym (c.equal_events.ensures.1 same) ∙ c.if-equal_events.false in cc wrong) in
    alike r start all _ _ (other_below names e f other)
    (behind r start (string_bytes c.push_mark.new.text) all (codes " as ") (event_text names f) c.in_ok-push_mark.ensures c.push_event.ensures)
