use Rattle.csp_rows.proofs.KeptAlone.{KeptUpTo}
use Rattle.csp_rows.proofs.alone.keep_alone.Given as goal

abbrev pub invariant-loop-place : goal.invariant-loop-place
invariant-loop-place g l = KeptUpTo l.free.marks.items l.ended l.fn.steps.items l.steps.items l.fn.side l.fn.to l.place l.behind
