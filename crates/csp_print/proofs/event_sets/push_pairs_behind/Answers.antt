use Rattle.std.proofs.Common.{List, ◌++◌, drop, ap, ◌∙◌, sym, ◌≡◌, ◌+◌, ◌∷◌, suc, add-one, drop-cons}
use Rattle.std.proofs.lemmas.List.{drop_all}
use Rattle.std.specs.Prelude.{codes}
use Rattle.std.specs.String.{string_bytes}
use Rattle.csp_events.specs.declared.renaming_pair.RenamingPair.{RenamingPair}
use Rattle.csp_events.specs.Events.{renaming_pair_of, renaming_pairs_of}
use Rattle.theory_notation.specs.EventSets.{pair_text, pairs_behind}
use Rattle.csp_print.specs.Names.{names_of}
use Rattle.csp_print.proofs.Writing.{comes_to_end, goes_on}
use Rattle.csp_print.proofs.event_sets.push_pairs_behind.Goals as goal

pub loop-pair-preserved : goal.loop-pair-preserved
loop-pair-preserved g c =
    let pairs = c.args.pairs.now in
    let i = c.loop-pair.pair-index in
    let names = names_of c.args.names.now in
    let texts = λ (xs : List (RenamingPair g.row.A.Denot)). pairs_behind names (renaming_pairs_of xs) in
    let first : drop i pairs ≡ c.pair-item.result ∷ drop (i + 1) pairs =
    rw add-one (drop-cons pairs i c.pair-item.result c.loop-pair-test.true ∙ ap (λ x. x ∷ drop (suc i) pairs) (sym c.pair-item.is)) in
    goes_on (string_bytes c.loop-pair.text) (string_bytes c.push_mark.new.text) (string_bytes c.push_pair.new.text) (codes ", ") (pair_text names (renaming_pair_of c.pair-item.result))
    (texts (drop i pairs)) (texts (drop (i + 1) pairs)) (string_bytes c.args.text.now ++ texts pairs) c.loop-pair.invariant (ap texts first) c.in_ok-push_mark.ensures c.in_ok-push_pair.ensures

pub returns : goal.returns
returns g c =
    let pairs = c.args.pairs.now in
    let texts = λ (xs : List (RenamingPair g.row.A.Denot)). pairs_behind (names_of c.args.names.now) (renaming_pairs_of xs) in
    comes_to_end (string_bytes c.args.text.now) (string_bytes c.loop-pair.text) (texts (drop c.loop-pair.pair-index pairs)) (texts pairs)
    c.loop-pair.invariant (ap texts (drop_all c.loop-pair.pair-index pairs c.loop-pair-test.false))
