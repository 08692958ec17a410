use Rattle.csp_rows.proofs.OrderedTargets.{both_first, left_first, right_first, targets_same, targets_whole}
use Rattle.csp_rows.proofs.order_laws.targets_are_ordered_by_changes.Goals as goal

pub returns : goal.returns
returns c = record { whole = targets_whole; same = targets_same; left = left_first; right = right_first; both = both_first }
