use Rattle.std.proofs.Common.{arith, subst}
use Rattle.std.proofs.lemmas.List.{take_all}
use Rattle.csp_rows.proofs.Loops.{NoneAt, unchanged_more}
use Rattle.csp_rows.proofs.targets.next_changed.Goals as goal

pub loop-change-preserved : goal.loop-change-preserved
loop-change-preserved c =
    let so_far = c.loop-change.invariant in
    let next = c.nearer-next.ensures in
    let less = next.before in
    let within = so_far.before in
    record {
      before = omega (arith, less, within);
      behind = λ le. next.behind (so_far.behind le);
      unchanged = unchanged_more c.args.changes.now c.loop-change.change-index c.args.from c.loop-change.next c.nearer-next.result _ c.loop-change-test.true so_far.unchanged next.before next.least;
    }

pub returns-clause-unchanged : goal.returns-clause-unchanged
returns-clause-unchanged c = λ i on before.
    let past = c.loop-change-test.false in
    subst (λ cs. NoneAt cs i) (take_all c.loop-change.change-index c.args.changes.now (omega (arith, past))) (c.loop-change.invariant.unchanged i on before)
