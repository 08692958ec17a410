use Rattle.std.proofs.Common.{◌≡◌, ◌≤◌, ◌<◌, ◌-◌, ℕ, get_or, length}
use Rattle.std.specs.declared.cmp.Ordering.TheVariants.{Equal}
use Rattle.csp_rows.specs.declared.numbers.PartId.{PartId}
use Rattle.csp_rows.specs.ByOrder.{row_after}
use Rattle.csp_rows.proofs.targets.compare_targets.Given as goal

abbrev pub invariant-loop-hole : goal.invariant-loop-hole
invariant-loop-hole g l = record {
  within : l.hole ≤ length l.row;
  tie : (i : ℕ) → i < l.hole → (d : PartId) → g.O.PartOrder.order l.parts (get_or (row_after l.left l.row) i d) (get_or (row_after l.right l.row) i d) ≡ Equal;
}

abbrev pub decreases-loop-hole : goal.decreases-loop-hole
decreases-loop-hole g l = length l.row - l.hole
