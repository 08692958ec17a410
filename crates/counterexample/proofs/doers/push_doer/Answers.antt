-- A part with a way is told behind the mark.
use Rattle.std.proofs.Common.{◌≡◌, List, ◌++◌, map, sym, ◌∙◌, ap, subst}
use Rattle.std.specs.Prelude.{◌==◌}
use Rattle.std.specs.String.{string_bytes}
use Rattle.csp_value.specs.Action.{event_of}
use Rattle.csp_moves.specs.Passage.{side_of}
use Rattle.csp_moves.specs.declared.passage.Side.{Side}
use Rattle.theory_explanation.specs.Legend.{part_text}
use Rattle.theory_explanation.specs.Origins.{below_text}
use Rattle.csp_print.proofs.Writing.{alike, behind}
use Rattle.counterexample.specs.PartNames.{legend_of}
use Rattle.counterexample.proofs.Belows.{told_at, told_bare}
use Rattle.counterexample.proofs.doers.push_doer.Goals as goal

pub returns-then-is_empty : goal.returns-then-is_empty
returns-then-is_empty g c =
    let doer = c.args.doer.now in
    alike c.push_below.result (string_bytes c.args.text.now) (string_bytes c.push_below.new.text) _ _
    (told_bare (legend_of c.args.legend.now) (event_of c.args.seen.now) c.args.mark.now doer.way.items (event_of doer.event.now) (sym (ap (λ n. n == 0) doer.way.ok.0) ∙ sym c.is_empty.ensures ∙ c.if-is_empty.true)) c.push_below.ensures

pub returns : goal.returns
returns g c =
    let legend = legend_of c.args.legend.now in
    let seen = event_of c.args.seen.now in
    let doer = c.args.doer.now in
    let mark = c.args.mark.now in
    let r = c.push_below-2.result in
    let start = string_bytes c.args.text.now in
    let one = string_bytes c.push_mark.new.text in
    let two = string_bytes c.push_part.new.text in
    let all = string_bytes c.push_below-2.new.text in
    let way = part_text legend (map side_of doer.way.items) in
    let below = below_text legend.names seen (event_of doer.event.now) in
    let W : List Side → Type 0 = λ xs. two ≡ one ++ part_text legend (map side_of xs) in
    alike r start all _ _ (told_at legend seen mark doer.way.items (event_of doer.event.now) (sym (ap (λ n. n == 0) doer.way.ok.0) ∙ sym c.is_empty.ensures ∙ c.if-is_empty.false))
    (behind r start one all mark (way ++ below) c.in_ok-push_mark.ensures (behind r one two all way below (subst W c.deref.ensures.value c.in_ok-push_part.ensures) c.push_below-2.ensures))
