use Rattle.std.specs.Prelude.{map, take}
use Rattle.csp_parse.specs.Declarations.{clause_of}
use Rattle.csp_kinds.specs.Clauses.{AreClausesOf, IsNextDatatype}
use Rattle.csp_kinds.proofs.clauses.look_at_clauses.Given as goal

abbrev pub invariant-loop-place : goal.invariant-loop-place
invariant-loop-place g l = (next : IsNextDatatype l.fn.above l.fn.fit (map clause_of l.fn.clauses)) →
    AreClausesOf next.raw next.above next.name (map clause_of (take l.place l.fn.clauses)) l.fn.fit.some l.all l.fit
