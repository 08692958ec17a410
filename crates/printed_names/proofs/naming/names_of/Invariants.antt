use Rattle.std.proofs.Common.{◌≡◌, None, map, take}
use Rattle.theory_checking.specs.Names.{bound_spellings}
use Rattle.csp_parse.specs.Declarations.{declaration_of}
use Rattle.printed_names.specs.Binding.{met}
use Rattle.printed_names.specs.Declaring.{AreDeclaredIn}
use Rattle.printed_names.proofs.naming.names_of.Given as goal

abbrev pub invariant-loop-declaration : goal.invariant-loop-declaration
invariant-loop-declaration g l = record {
  declared : AreDeclaredIn (map declaration_of (take l.declaration-index l.declaration-items)) l.names;
  types : l.names.types ≡ None;
  bound : met l.bound ≡ bound_spellings (map declaration_of (take l.declaration-index l.declaration-items));
}
