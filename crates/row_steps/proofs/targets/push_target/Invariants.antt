use Rattle.std.proofs.Common.{drop}
use Rattle.row_steps.proofs.ChangedRows.{IsPushed}
use Rattle.row_steps.proofs.targets.push_target.Given as goal

abbrev pub invariant-loop-change : goal.invariant-loop-change
invariant-loop-change g l = IsPushed l.fn.parts.items l.parts.items l.row l.changes (drop l.change-index l.changes)
