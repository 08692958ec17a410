use Rattle.csp_value.proofs.Measures.{depths}
use Rattle.csp_value.proofs.Walking.{Decides}
use Rattle.csp_value.proofs.+depth.Given as goal

abbrev pub invariant-limits::are_within_depth-loop-value : goal.invariant-limits::are_within_depth-loop-value
invariant-limits::are_within_depth-loop-value g l = Decides depths l.values l.most l.value-index
