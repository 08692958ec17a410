use Rattle.std.proofs.Common.{◌≡◌, ◌≤◌, ◌-◌, length, drop}
use Rattle.csp_inference.specs.State.{taken_off}
use Rattle.csp_inference.proofs.state.without_like_beginning.Given as goal

abbrev pub invariant-loop-common : goal.invariant-loop-common
invariant-loop-common l = record {
  left : l.common ≤ length l.left;
  right : l.common ≤ length l.right;
  same : taken_off (drop l.common l.left) (drop l.common l.right) ≡ taken_off l.left l.right;
}

abbrev pub decreases-loop-common : goal.decreases-loop-common
decreases-loop-common l = length l.left - l.common
