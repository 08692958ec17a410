use Rattle.std.proofs.Common.{arith}
use Rattle.csp_rows.proofs.Pools.{run_more}
use Rattle.csp_rows.proofs.changes.repeat.Goals as goal

pub loop-place-preserved : goal.loop-place-preserved
loop-place-preserved g c = (
  omega (arith, c.loop-place.invariant.0),
  run_more c.args.pool.now.items c.loop-place.pool.items c.push.new.self.items c.args.run.from c.loop-place.place c.index-change.result.now _ c.loop-place.invariant.0
      (omega (arith, c.loop-place-test.true, c.requires)) c.loop-place.invariant.1 c.index-change.ensures c.in_ok-push.ensures.items,
)
