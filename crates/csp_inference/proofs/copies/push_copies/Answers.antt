use Rattle.csp_inference.proofs.Copying.{copies_all, copies_more}
use Rattle.csp_inference.proofs.copies.push_copies.Goals as goal

pub loop-preserved : goal.loop-preserved
loop-preserved g c = copies_more c.args.list.now.items c.loop.list.items c.push.new.self.items c.args.count c.loop.counter c.args.value c.loop-test.true c.loop.invariant c.in_ok-push.ensures.items

pub returns : goal.returns
returns g c = copies_all c.args.list.now.items c.loop.list.items c.args.count c.loop.counter c.args.value c.loop-test.false c.loop.invariant
