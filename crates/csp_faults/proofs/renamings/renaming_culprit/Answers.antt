-- What is found in the first one in which anything is.
use Rattle.std.proofs.Common.{◌+◌, drop, sym, ◌∙◌, arith}
use Rattle.theory_faults.proofs.Events.{first_mapped}
use Rattle.theory_faults.specs.Culprit.{first_found}
use Rattle.theory_faults.specs.Events.{pair_culprit}
use Rattle.csp_events.specs.Events.{renaming_pair_of}
use Rattle.csp_events.specs.declared.renaming_pair.RenamingPair.{RenamingPair}
use Rattle.csp_term.specs.Script.{script_of_parts}
use Rattle.csp_faults.proofs.Found.{found_none, goes_behind, looked, stays}
use Rattle.csp_faults.proofs.renamings.renaming_culprit.Goals as goal

pub returns-then-is_some : goal.returns-then-is_some
returns-then-is_some g c =
    let s = script_of_parts c.args.script.now in
    let look = λ (x : RenamingPair g.row.A.Denot). pair_culprit s (renaming_pair_of x) in
    let xs = c.args.pairs.now in
    let i = c.loop-pair.pair-index in
    let x = c.pair-item.result in
    stays c.in_ok-found.found c.is_some.result c.is_some.ensures c.if-is_some.true (look x) (first_found look (drop (i + 1) xs)) (first_found look xs) c.in_ok-found.ensures
    (looked look xs i x c.loop-pair-test.true c.pair-item.is c.loop-pair.invariant)
    ∙ sym (first_mapped (pair_culprit s) renaming_pair_of xs)

pub loop-pair-preserved : goal.loop-pair-preserved
loop-pair-preserved g c =
    let s = script_of_parts c.args.script.now in
    let look = λ (x : RenamingPair g.row.A.Denot). pair_culprit s (renaming_pair_of x) in
    let xs = c.args.pairs.now in
    let i = c.loop-pair.pair-index in
    let x = c.pair-item.result in
    goes_behind c.in_ok-found.found c.is_some.result c.is_some.ensures c.if-is_some.false (look x) (first_found look (drop (i + 1) xs)) (first_found look xs) c.in_ok-found.ensures
    (looked look xs i x c.loop-pair-test.true c.pair-item.is c.loop-pair.invariant)

pub returns : goal.returns
returns g c =
    let s = script_of_parts c.args.script.now in
    let xs = c.args.pairs.now in
    found_none (λ (x : RenamingPair g.row.A.Denot). pair_culprit s (renaming_pair_of x)) xs c.loop-pair.pair-index (omega arith) c.loop-pair.invariant ∙ sym (first_mapped (pair_culprit s) renaming_pair_of xs)
