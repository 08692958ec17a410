use Rattle.std.proofs.Common.{◌≡◌, ◌++◌, take, drop}
use Rattle.theory_syntax.specs.Value.{insert_value}
use Rattle.csp_value.specs.Value.{value_of, values_of}
use Rattle.csp_value.proofs.set.insert.Given as goal

abbrev pub invariant-loop-place : goal.invariant-loop-place
invariant-loop-place g l =
    (l.members.items ≡ l.fn.members.items) × (l.value ≡ l.fn.value)
    × (insert_value (value_of l.value) (values_of l.members.items) ≡ values_of (take l.place l.members.items) ++ insert_value (value_of l.value) (values_of (drop l.place l.members.items)))
