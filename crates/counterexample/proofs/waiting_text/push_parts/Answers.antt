-- Where there are several parts, each is told.
use Rattle.std.proofs.Common.{◌≤◌, List, [], ◌++◌, length, map, sym, ◌∙◌, ap, append-nil, arith}
use Rattle.std.specs.String.{string_bytes}
use Rattle.theory_explanation.specs.PartNames as pure
use Rattle.theory_explanation.specs.PartNames.{names_along}
use Rattle.theory_explanation.specs.Waiting.{all_waiting}
use Rattle.csp_print.proofs.Writing.{alike}
use Rattle.counterexample.specs.Counterexample.{origins_listed, waiting_of}
use Rattle.counterexample.specs.PartNames.{part_names_listed}
use Rattle.counterexample.specs.Styles.{style_of}
use Rattle.counterexample.specs.declared.part_names.PartName.{PartName}
use Rattle.counterexample.proofs.WaitingTexts.{few_parts, many_parts}
use Rattle.counterexample.proofs.waiting_text.push_parts.Goals as goal

pub returns-then-waiting-lt2 : goal.returns-then-waiting-lt2
returns-then-waiting-lt2 g c =
    let start = string_bytes c.args.text.now in
    let few = c.if-waiting-lt2.true in
    sym (append-nil start) ∙ ap (λ ts. start ++ ts) (sym (few_parts (style_of c.args.style.now) (names_along [] (origins_listed c.args.origins.now)) c.args.waiting.now (omega (arith, few))))

pub returns : goal.returns
returns g c =
    let style = style_of c.args.style.now in
    let names = names_along [] (origins_listed c.args.origins.now) in
    let ws = c.args.waiting.now in
    let more = c.if-waiting-lt2.false in
    let many : 2 ≤ length ws = omega (arith, more) in
    let named = ap (λ (ps : List (PartName g.row.A.Denot)). part_names_listed ps) c.deref.ensures.value ∙ c.in_ok-parts.ensures in
    alike c.push_all_waiting.result (string_bytes c.args.text.now) (string_bytes c.push_all_waiting.new.text) _ _
    (ap (λ (ps : List pure.PartName). all_waiting style ps (map waiting_of ws)) named ∙ many_parts style names ws many) c.push_all_waiting.ensures
