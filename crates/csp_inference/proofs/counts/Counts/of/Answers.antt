use Rattle.std.proofs.Common.{map, subst}
use Rattle.std.proofs.lemmas.List.{take_all}
use Rattle.csp_parse.specs.Declarations.{declaration_of}
use Rattle.csp_inference.specs.Counts.{AreCountsOf}
use Rattle.csp_inference.proofs.Counting.{counts_step}
use Rattle.csp_inference.proofs.counts.Counts.of.Goals as goal

pub loop-declaration-preserved : goal.loop-declaration-preserved
loop-declaration-preserved g c = counts_step c.args.declarations.now c.loop-declaration.declaration-index c.declaration-item.result c.loop-declaration.counts c.add.new.self c.loop-declaration-test.true c.declaration-item.is c.loop-declaration.invariant c.in_ok-add.ensures

pub returns : goal.returns
returns g c = subst (λ ds. AreCountsOf (map declaration_of ds) c.loop-declaration.counts) (take_all c.loop-declaration.declaration-index c.args.declarations.now c.loop-declaration-test.false) c.loop-declaration.invariant
