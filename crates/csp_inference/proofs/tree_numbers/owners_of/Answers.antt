use Rattle.std.proofs.Common.{refl, rules}
use Rattle.csp_inference.proofs.Rowing.{owners_all, owners_more}
use Rattle.csp_inference.proofs.tree_numbers.owners_of.Goals as goal

pub loop-count-preserved : goal.loop-count-preserved
loop-count-preserved g c = owners_more c.loop-count.owners.items c.push_copies.new.list.items c.loop-count.datatype c.in_ok-datatype.datatype c.args.counts.now c.loop-count.count-index _ _ refl (search rules) c.loop-count-test.true c.loop-count.invariant c.in_ok-push_copies.ensures

pub returns : goal.returns
returns g c = owners_all c.loop-count.owners.items c.loop-count.datatype c.args.counts.now c.loop-count.count-index c.loop-count-test.false c.loop-count.invariant
