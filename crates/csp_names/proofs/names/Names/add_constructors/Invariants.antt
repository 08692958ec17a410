use Rattle.csp_names.proofs.ConstructorsAdded.{AddsClauses}
use Rattle.csp_names.proofs.names.Names.add_constructors.Given as goal

abbrev pub invariant-loop-clause : goal.invariant-loop-clause
invariant-loop-clause g l = AddsClauses l.clauses l.clause-index l.fn.self l.self
