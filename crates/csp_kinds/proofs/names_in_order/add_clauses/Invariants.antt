-- The names so far and those of the clauses so far.
use Rattle.std.proofs.Common.{◌≡◌, ◌++◌, map, take}
use Rattle.theory_checking.specs.Names.{clause_names}
use Rattle.csp_parse.specs.Declarations.{clause_of}
use Rattle.csp_parse.specs.Names.{name_of}
use Rattle.csp_kinds.proofs.names_in_order.add_clauses.Given as goal

abbrev pub invariant-loop-clause : goal.invariant-loop-clause
invariant-loop-clause g l = map name_of l.all.items ≡ map name_of l.fn.all.items ++ clause_names (map clause_of (take l.clause-index l.clauses))
