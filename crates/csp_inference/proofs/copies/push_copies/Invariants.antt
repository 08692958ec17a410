use Rattle.std.proofs.Common.{◌≡◌, ◌++◌, ◌-◌, replicate}
use Rattle.csp_inference.proofs.copies.push_copies.Given as goal

abbrev pub invariant-loop : goal.invariant-loop
invariant-loop g l = l.list.items ++ replicate (l.count - l.counter) l.value ≡ l.fn.list.items ++ replicate l.count l.value
