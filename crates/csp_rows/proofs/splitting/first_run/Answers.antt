use Rattle.csp_rows.proofs.Fronts.{none_more}
use Rattle.csp_rows.proofs.splitting.first_run.Goals as goal

pub loop-number-preserved : goal.loop-number-preserved
loop-number-preserved g c =
    none_more c.args.parts.now c.args.bytes.now c.args.tried.now c.loop-number.number-index _ c.run_of-run.result c.loop-number-test.true c.loop-number.invariant c.run_of-run.ensures c.if-is_some.ensures
