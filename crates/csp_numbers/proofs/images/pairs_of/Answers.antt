use Rattle.std.proofs.Common.{Result, Err, sym, ◌∙◌, ap, subst, arith}
use Rattle.std.specs.declared.vec.Vec.{Vec}
use Rattle.std.proofs.lemmas.List.{take_all}
use Rattle.std.proofs.lemmas.Result.{err_from_is_err_and}
use Rattle.theory_semantics.specs.Meaning.Events.{renaming}
use Rattle.csp_expression.specs.declared.no_value.NoValue.{NoValue}
use Rattle.csp_events.specs.Events.{renaming_pairs_of}
use Rattle.csp_term.specs.Script.{script_of_parts}
use Rattle.csp_numbers.specs.declared.pair.Pair.{Pair}
use Rattle.csp_numbers.specs.Pairs.{ArePairsOf, Make}
use Rattle.csp_numbers.proofs.InTurn.{none_named, one_pair_more, stops_at_pair}
use Rattle.csp_numbers.proofs.images.pairs_of.Goals as goal

pub loop-pair-init : goal.loop-pair-init
loop-pair-init g c = none_named (script_of_parts c.args.script.now) c.args.alphabet.now c.new-all.result.items c.new-all.ensures.items

pub loop-pair-preserved : goal.loop-pair-preserved
loop-pair-preserved g c =
    one_pair_more (script_of_parts c.args.script.now) c.args.alphabet.now c.args.pairs.now c.loop-pair.pair-index c.pair-item.result c.loop-pair-test.true c.pair-item.is c.loop-pair.all.items c.loop-pair.invariant c.in_ok-named.named c.push.new.self.items c.in_ok-named.ensures c.in_ok-push.ensures.items

pub returns-in_err-named : goal.returns-in_err-named
returns-in_err-named g c =
    let s = script_of_parts c.args.script.now in
    let p = err_from_is_err_and c.from_residual.result c.from_residual.ensures.1 in
    let P : Result (Vec Pair g.row.A.Denot) NoValue → Type 0 = λ r. ArePairsOf c.args.alphabet.now r (renaming s (renaming_pairs_of c.args.pairs.now)) in
    subst P (sym (p.1 ∙ ap Err p.2))
    (stops_at_pair s c.args.alphabet.now c.args.pairs.now c.loop-pair.pair-index c.pair-item.result c.loop-pair-test.true c.pair-item.is c.loop-pair.all.items c.loop-pair.invariant c.in_err-named.field-0.0 c.in_err-named.ensures)

pub returns : goal.returns
returns g c =
    subst (λ ps. Make c.args.alphabet.now c.loop-pair.all.items (renaming (script_of_parts c.args.script.now) (renaming_pairs_of ps))) (take_all c.loop-pair.pair-index c.args.pairs.now (omega (arith, c.loop-pair-test.false))) c.loop-pair.invariant
