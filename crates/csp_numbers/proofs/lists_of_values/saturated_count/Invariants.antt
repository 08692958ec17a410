use Rattle.std.proofs.Common.{◌≡◌, ◌≤◌, ◌*◌, ◌-◌, ◌^◌, min, length}
use Rattle.theory_shapes.specs.Alphabet.{field_lists}
use Rattle.csp_value.specs.Fields.{sets_of}
use Rattle.csp_numbers.proofs.Choosing.{lists_from}
use Rattle.csp_numbers.proofs.lists_of_values.saturated_count.Given as goal

abbrev pub invariant-loop-set : goal.invariant-loop-set
invariant-loop-set g l = record {
  fits : l.count ≤ 2 ^ 64 - 1;
  counted : min (l.count * length (lists_from l.sets l.set-index)) (2 ^ 64 - 1) ≡ min (length (field_lists (sets_of l.sets))) (2 ^ 64 - 1);
}
