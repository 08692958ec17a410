use Rattle.csp_expression.proofs.Constructing.{MadeSoFar}
use Rattle.csp_expression.proofs.constructors.all_of.Given as goal

abbrev pub invariant-loop-offset : goal.invariant-loop-offset
invariant-loop-offset g l = MadeSoFar l.types l.first l.offset l.members.items
