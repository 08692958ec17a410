use Rattle.csp_rows.proofs.HoleChanges.{known_more}
use Rattle.csp_rows.proofs.hole.add_known.Goals as goal

pub loop-step-preserved : goal.loop-step-preserved
loop-step-preserved g c =
    known_more c.args.hole c.args.known.now c.loop-step.step-index _ c.args.pool.now.items c.loop-step.pool.items c.add_change.new.pool.items c.args.steps.now.items c.loop-step.steps.items c.push.new.self.items c.in_ok-add_change.field-0
    c.loop-step-test.true c.loop-step.invariant c.in_ok-add_change.ensures c.in_ok-push.ensures.items
