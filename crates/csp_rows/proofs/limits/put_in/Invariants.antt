use Rattle.std.proofs.Common.{◌≡◌, ◌≤◌, ◌*◌, ◌-◌, ◌^◌, take}
use Rattle.csp_rows.specs.Measures.{size_put_in}
use Rattle.csp_rows.proofs.limits.put_in.Given as goal

abbrev pub invariant-loop-change : goal.invariant-loop-change
invariant-loop-change g l = (l.total ≡ size_put_in l.parts (take l.change-index l.changes)) × (l.total ≤ (2 ^ 32 - 1) * l.change-index)
