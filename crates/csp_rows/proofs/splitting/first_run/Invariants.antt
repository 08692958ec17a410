use Rattle.std.proofs.Common.{take}
use Rattle.std.specs.List.{AllByRecursion}
use Rattle.csp_rows.specs.Split.{IsNotInFront}
use Rattle.csp_rows.proofs.splitting.first_run.Given as goal

abbrev pub invariant-loop-number : goal.invariant-loop-number
invariant-loop-number g l = AllByRecursion (IsNotInFront l.parts l.bytes) (take l.number-index l.tried)
