-- The names so far are those of the declarations so far.
use Rattle.theory_checking.specs.Names.{ConstructorName, declared_as}
use Rattle.csp_kinds.proofs.Spelling.{AreNamed}
use Rattle.csp_kinds.proofs.names_in_order.constructor_names.Given as goal

abbrev pub invariant-loop-declaration : goal.invariant-loop-declaration
invariant-loop-declaration g l = AreNamed (declared_as ConstructorName) l.declaration-items l.declaration-index l.all.items
