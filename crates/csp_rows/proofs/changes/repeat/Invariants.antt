use Rattle.std.proofs.Common.{◌≡◌, ◌≤◌, ◌++◌, ◌-◌, take, drop}
use Rattle.csp_rows.proofs.changes.repeat.Given as goal

abbrev pub invariant-loop-place : goal.invariant-loop-place
invariant-loop-place g l =
    (l.fn.run.from ≤ l.place) × (l.pool.items ≡ l.fn.pool.items ++ take (l.place - l.fn.run.from) (drop l.fn.run.from l.fn.pool.items))
