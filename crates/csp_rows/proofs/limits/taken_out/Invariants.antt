use Rattle.std.proofs.Common.{◌≡◌, ◌≤◌, ◌*◌, ◌-◌, ◌^◌, take}
use Rattle.csp_rows.specs.Measures.{size_taken_out}
use Rattle.csp_rows.proofs.limits.taken_out.Given as goal

abbrev pub invariant-loop-change : goal.invariant-loop-change
invariant-loop-change g l = (l.total ≡ size_taken_out l.parts l.row (take l.change-index l.changes)) × (l.total ≤ (2 ^ 32 - 1) * l.change-index)
