use Rattle.std.proofs.Common.{map, take}
use Rattle.csp_parse.specs.Declarations.{declaration_of}
use Rattle.csp_names.specs.FirstPass.{IsTableOf}
use Rattle.csp_names.proofs.name_table.names_of.Given as goal

abbrev pub invariant-loop-declaration : goal.invariant-loop-declaration
invariant-loop-declaration g l = IsTableOf l.table (map declaration_of (take l.declaration-index l.declaration-items))
