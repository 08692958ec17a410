use Rattle.std.proofs.Common.{◌≡◌, ◌-◌, ◌≤◌, map, drop}
use Rattle.csp_value.specs.Value.{value_of, values_of}
use Rattle.theory_semantics.specs.Meaning.Offers.{rises}
use Rattle.csp_value.proofs.rising.is_rising.Given as goal

abbrev pub invariant-loop-place : goal.invariant-loop-place
invariant-loop-place g l = (1 ≤ l.place) × (rises (map value_of (drop (l.place - 1) l.values)) ≡ rises (values_of l.values))
