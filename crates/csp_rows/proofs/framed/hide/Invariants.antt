use Rattle.csp_rows.specs.Framed.{hidden_step}
use Rattle.csp_rows.proofs.Frames.{HiddenUpTo}
use Rattle.csp_rows.proofs.framed.hide.Given as goal

abbrev pub invariant-loop-place : goal.invariant-loop-place
invariant-loop-place g l = HiddenUpTo (hidden_step l.hidden.marks.items) l.fn.steps.items l.steps.items l.fn.body l.place
