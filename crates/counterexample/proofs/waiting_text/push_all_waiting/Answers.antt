use Rattle.std.proofs.Common.{List, ◌++◌, drop, ap, ◌∙◌, sym, ◌≡◌, ◌+◌, ◌∷◌, suc, add-one, drop-cons, map}
use Rattle.std.proofs.lemmas.List.{drop_all}
use Rattle.std.specs.String.{string_bytes}
use Rattle.theory_explanation.specs.Waiting.{all_waiting, waiting_text}
use Rattle.csp_print.proofs.Writing.{comes_to_end, goes_on_bare}
use Rattle.counterexample.specs.Counterexample.{waiting_of}
use Rattle.counterexample.specs.PartNames.{part_names_listed}
use Rattle.counterexample.specs.Styles.{style_of}
use Rattle.counterexample.specs.declared.waiting.Waiting.{Waiting}
use Rattle.counterexample.proofs.waiting_text.push_all_waiting.Goals as goal

pub loop-part-preserved : goal.loop-part-preserved
loop-part-preserved g c =
    let waiting = c.args.waiting.now in
    let i = c.loop-part.part-index in
    let style = style_of c.args.style.now in
    let parts = part_names_listed c.args.parts.now in
    let texts = λ (ws : List (Waiting g.row.A.Denot)). all_waiting style parts (map waiting_of ws) in
    let first : drop i waiting ≡ c.part-item.result ∷ drop (i + 1) waiting =
    rw add-one (drop-cons waiting i c.part-item.result c.loop-part-test.true ∙ ap (λ w. w ∷ drop (suc i) waiting) (sym c.part-item.is)) in
    goes_on_bare (string_bytes c.loop-part.text) (string_bytes c.push_waiting.new.text) (waiting_text style parts (waiting_of c.part-item.result))
    (texts (drop i waiting)) (texts (drop (i + 1) waiting)) (string_bytes c.args.text.now ++ texts waiting) c.loop-part.invariant (ap texts first) c.in_ok-push_waiting.ensures

pub returns : goal.returns
returns g c =
    let waiting = c.args.waiting.now in
    let texts = λ (ws : List (Waiting g.row.A.Denot)). all_waiting (style_of c.args.style.now) (part_names_listed c.args.parts.now) (map waiting_of ws) in
    comes_to_end (string_bytes c.args.text.now) (string_bytes c.loop-part.text) (texts (drop c.loop-part.part-index waiting)) (texts waiting)
    c.loop-part.invariant (ap texts (drop_all c.loop-part.part-index waiting c.loop-part-test.false))
