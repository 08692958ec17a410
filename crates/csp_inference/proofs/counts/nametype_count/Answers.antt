use Rattle.std.proofs.Common.{arith, length, map, ap, ◌∙◌, ◌≤◌, subst, sym}
use Rattle.std.proofs.lemmas.List.{take_all}
use Rattle.theory_checking.specs.Sets.{nametype_sets}
use Rattle.csp_parse.specs.Declarations.{declaration_of}
use Rattle.csp_inference.proofs.Counting.{at_most_one, nametypes_more}
use Rattle.csp_inference.proofs.counts.nametype_count.Goals as goal

pub loop-declaration-preserved : goal.loop-declaration-preserved
loop-declaration-preserved g c =
    let one : c.nametypes_in-count.result ≤ 1 = subst (λ k. k ≤ 1) (sym c.nametypes_in-count.ensures) (at_most_one (declaration_of c.declaration-item.result)) in
    record {
      within = omega (arith, one, c.loop-declaration.invariant.within);
      counted =
          nametypes_more c.args.declarations.now c.loop-declaration.declaration-index c.loop-declaration.count c.nametypes_in-count.result c.declaration-item.result c.loop-declaration-test.true c.declaration-item.is c.nametypes_in-count.ensures
          c.loop-declaration.invariant.counted;
    }

pub returns : goal.returns
returns g c = c.loop-declaration.invariant.counted ∙ ap (λ ds. length (nametype_sets (map declaration_of ds))) (take_all c.loop-declaration.declaration-index c.args.declarations.now c.loop-declaration-test.false)
