use Rattle.std.proofs.Common.{map, take}
use Rattle.csp_parse.specs.Declarations.{clause_of}
use Rattle.csp_inference.specs.Counts.{AddsClauses}
use Rattle.csp_inference.proofs.counts.Counts.add_clauses.Given as goal

abbrev pub invariant-loop-clause : goal.invariant-loop-clause
invariant-loop-clause g l = AddsClauses (map clause_of (take l.clause-index l.clauses)) l.initial.self l.self
