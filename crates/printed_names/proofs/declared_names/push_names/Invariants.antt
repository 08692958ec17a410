use Rattle.std.proofs.Common.{◌≡◌, ◌++◌, take}
use Rattle.csp_print.specs.Names.{spellings_of}
use Rattle.printed_names.proofs.Declared.{texts_of_names}
use Rattle.printed_names.proofs.declared_names.push_names.Given as goal

abbrev pub invariant-loop-name : goal.invariant-loop-name
invariant-loop-name g l = spellings_of l.list.items ≡ spellings_of l.initial.list.items ++ texts_of_names (take l.name-index l.names)
