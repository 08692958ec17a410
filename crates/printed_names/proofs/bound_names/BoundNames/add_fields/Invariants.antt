use Rattle.std.proofs.Common.{◌≡◌, take}
use Rattle.theory_checking.specs.Names.{with_spellings}
use Rattle.printed_names.specs.Binding.{met}
use Rattle.printed_names.proofs.Meeting.{met_by_fields}
use Rattle.printed_names.proofs.bound_names.BoundNames.add_fields.Given as goal

abbrev pub invariant-loop-field : goal.invariant-loop-field
invariant-loop-field g l = met l.self ≡ with_spellings (met l.initial.self) (met_by_fields (take l.field-index l.fields))
