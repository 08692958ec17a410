use Rattle.std.proofs.Common.{◌≡◌, take}
use Rattle.theory_checking.specs.Names.{with_spellings}
use Rattle.printed_names.specs.Binding.{met}
use Rattle.printed_names.proofs.Meeting.{met_by_names}
use Rattle.printed_names.proofs.bound_names.BoundNames.add_all.Given as goal

abbrev pub invariant-loop-name : goal.invariant-loop-name
invariant-loop-name g l = met l.self ≡ with_spellings (met l.initial.self) (met_by_names (take l.name-index l.names))
