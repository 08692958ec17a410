use Rattle.report.proofs.Sending.{pushes}
use Rattle.report.proofs.pushing.push_all.Goals as goal

pub loop-rest-preserved : goal.loop-rest-preserved
loop-rest-preserved g c =
    pushes c.loop-rest.rest.now c.split_at.result.1.now c.in-Ok.count c.loop-rest.invariant c.if-count-gt0.true c.in-Ok.ensures.bytes c.in-Ok.ensures.failure c.split_at.ensures.back
