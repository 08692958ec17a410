use Rattle.std.proofs.Common.{◌≡◌, ◌++◌, take}
use Rattle.csp_print.specs.Names.{spellings_of}
use Rattle.printed_names.proofs.Declared.{texts_of_clauses}
use Rattle.printed_names.proofs.declared_names.push_constructors.Given as goal

abbrev pub invariant-loop-clause : goal.invariant-loop-clause
invariant-loop-clause g l = spellings_of l.list.items ≡ spellings_of l.initial.list.items ++ texts_of_clauses (take l.clause-index l.clauses)
