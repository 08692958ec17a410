use Rattle.std.specs.Prelude.{map, take}
use Rattle.csp_parse.specs.Declarations.{declaration_of}
use Rattle.csp_kinds.proofs.Rowing.{AreRows}
use Rattle.csp_kinds.proofs.datatypes.datatypes_of.Given as goal

abbrev pub invariant-loop-declaration : goal.invariant-loop-declaration
invariant-loop-declaration g l = AreRows (map declaration_of (take l.declaration-index l.declarations)) l.all.items l.next
