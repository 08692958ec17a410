use Rattle.std.proofs.Common.{List, ◌++◌, drop, ap, ◌∙◌, sym, ◌≡◌, ◌+◌, ◌∷◌, suc, add-one, drop-cons}
use Rattle.std.proofs.lemmas.List.{drop_all}
use Rattle.std.specs.Prelude.{codes}
use Rattle.std.specs.String.{string_bytes}
use Rattle.csp_value.specs.Action.{event_of}
use Rattle.theory_explanation.specs.Origins.{doer_text, doers_behind}
use Rattle.csp_print.proofs.Writing.{comes_to_end, goes_on_bare}
use Rattle.counterexample.specs.Doers.{doer_of, doers_listed}
use Rattle.counterexample.specs.declared.doers.Doer.{Doer}
use Rattle.counterexample.specs.PartNames.{legend_of}
use Rattle.counterexample.proofs.doers.push_doers_behind.Goals as goal

pub loop-doer-preserved : goal.loop-doer-preserved
loop-doer-preserved g c =
    let doers = c.args.doers.now in
    let i = c.loop-doer.doer-index in
    let legend = legend_of c.args.legend.now in
    let seen = event_of c.args.seen.now in
    let texts = λ (ds : List (Doer g.row.A.Denot)). doers_behind legend seen (doers_listed ds) in
    let first : drop i doers ≡ c.doer-item.result ∷ drop (i + 1) doers =
    rw add-one (drop-cons doers i c.doer-item.result c.loop-doer-test.true ∙ ap (λ d. d ∷ drop (suc i) doers) (sym c.doer-item.is)) in
    goes_on_bare (string_bytes c.loop-doer.text) (string_bytes c.push_doer.new.text) (doer_text legend seen (codes ", ") (doer_of c.doer-item.result))
    (texts (drop i doers)) (texts (drop (i + 1) doers)) (string_bytes c.args.text.now ++ texts doers) c.loop-doer.invariant (ap texts first) c.in_ok-push_doer.ensures

pub returns : goal.returns
returns g c =
    let doers = c.args.doers.now in
    let texts = λ (ds : List (Doer g.row.A.Denot)). doers_behind (legend_of c.args.legend.now) (event_of c.args.seen.now) (doers_listed ds) in
    comes_to_end (string_bytes c.args.text.now) (string_bytes c.loop-doer.text) (texts (drop c.loop-doer.doer-index doers)) (texts doers)
    c.loop-doer.invariant (ap texts (drop_all c.loop-doer.doer-index doers c.loop-doer-test.false))
