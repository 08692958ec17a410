use Rattle.std.proofs.Common.{◌≤◌, ◌-◌}
use Rattle.theory_semantics.specs.Meaning.Limits.{depth}
use Rattle.csp_term.specs.Term.{process_of}
use Rattle.csp_term.proofs.measures.depth_of.Given as goal

abbrev pub invariant-loop-most : goal.invariant-loop-most
invariant-loop-most g l = l.most ≤ depth (process_of l.term)

abbrev pub decreases-loop-most : goal.decreases-loop-most
decreases-loop-most g l = depth (process_of l.term) - l.most
