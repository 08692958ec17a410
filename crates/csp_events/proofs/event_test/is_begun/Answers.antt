-- The first front that is one of the beginnings decides, and else the whole event.
use Rattle.std.proofs.Common.{◌≡◌, ℕ, Bool, false, length, map, take, sym, ◌∙◌, ap, arith}
use Rattle.std.specs.List.{list_any}
use Rattle.theory_syntax.specs.Value.{Event, event_eq}
use Rattle.csp_value.specs.Action.{event_of}
use Rattle.csp_value.specs.Value.{value_of}
use Rattle.csp_events.specs.Testing.{event_with}
use Rattle.csp_events.proofs.Fronts.{begun_at_last, begun_by, front, front_with, none_further}
use Rattle.std.proofs.lemmas.List.{length-map}
use Rattle.csp_events.proofs.event_test.is_begun.Goals as goal

pub returns-then-is_beginning : goal.returns-then-is_beginning
returns-then-is_beginning g c =
    let e = c.args.event.now in
    let bs = map event_of c.args.beginnings.now in
    let k = c.loop-count.count in
    let among : Event → Bool = λ f. list_any (event_eq f) bs in
    let same = front_with e k (take k c.as_slice-fields.result.now) (ap (take k) c.as_slice-fields.ensures) in
    begun_by (event_of e) bs k (ap among (sym same) ∙ sym c.is_beginning.ensures ∙ c.if-is_beginning.true)

pub loop-count-preserved : goal.loop-count-preserved
loop-count-preserved g c =
    let e = c.args.event.now in
    let bs = map event_of c.args.beginnings.now in
    let k = c.loop-count.count in
    let among : Event → Bool = λ f. list_any (event_eq f) bs in
    let same = front_with e k (take k c.as_slice-fields.result.now) (ap (take k) c.as_slice-fields.ensures) in
    let P : ℕ → Type 0 = λ n. among (front n (event_of e)) ≡ false in
    none_further {P = P} k c.loop-count.invariant (ap among (sym same) ∙ sym c.is_beginning.ensures ∙ c.if-is_beginning.false)

pub returns : goal.returns
returns g c =
    let e = c.args.event.now in
    let bs = map event_of c.args.beginnings.now in
    let whole = c.as_slice-fields.ensures in
    let read = ap length whole in
    let counted = length-map e.fields.items value_of in
    c.is_beginning-2.ensures ∙ ap (λ vs. list_any (event_eq (event_with e.channel vs)) bs) whole ∙ begun_at_last (event_of e) bs (λ n below. c.loop-count.invariant n (omega (arith, below, counted, read)))
