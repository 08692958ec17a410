use Rattle.std.proofs.Common.{◌≡◌, ◌≤◌, ◌<◌, ℕ, take}
use Rattle.std.specs.List.{AllByRecursion}
use Rattle.csp_rows.proofs.targets.next_changed.Given as goal

abbrev pub invariant-loop-change : goal.invariant-loop-change
invariant-loop-change l = record {
  before : l.next ≤ l.end;
  behind : l.from ≤ l.end → l.from ≤ l.next;
  unchanged : (i : ℕ) → l.from ≤ i → i < l.next → AllByRecursion (λ c. c.hole ≡ i → ⊥) (take l.change-index l.changes);
}
