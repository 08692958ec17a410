use Rattle.csp_rows.proofs.Frames.{RenamedUpTo}
use Rattle.csp_rows.proofs.framed.rename.Given as goal

abbrev pub invariant-loop-place : goal.invariant-loop-place
invariant-loop-place g l = RenamedUpTo l.images.images.items l.fn.steps.items l.steps.items l.fn.body l.place
