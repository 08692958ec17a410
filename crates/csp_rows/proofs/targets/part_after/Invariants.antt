use Rattle.std.proofs.Common.{◌≡◌, get_or, take}
use Rattle.csp_rows.specs.declared.numbers.PartId.{PartId}
use Rattle.csp_rows.specs.ByOrder.{row_after}
use Rattle.csp_rows.proofs.targets.part_after.Given as goal

abbrev pub invariant-loop-change : goal.invariant-loop-change
invariant-loop-change l = (d : PartId) → l.part ≡ get_or (row_after (take l.change-index l.changes) l.row) l.hole d
