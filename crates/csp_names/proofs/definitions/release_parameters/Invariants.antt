use Rattle.std.proofs.Common.{map, take}
use Rattle.theory_checking.specs.Names.{spellings}
use Rattle.csp_parse.specs.Names.{name_of}
use Rattle.csp_names.specs.Scopes.{IsInOrder, Releases}
use Rattle.csp_names.proofs.definitions.release_parameters.Given as goal

abbrev pub invariant-loop-parameter : goal.invariant-loop-parameter
invariant-loop-parameter g l = IsInOrder l.initial.bound → Releases l.initial.bound l.bound (spellings (take l.parameter-index (map name_of l.parameters)))
