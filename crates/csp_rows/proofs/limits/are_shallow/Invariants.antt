use Rattle.std.proofs.Common.{◌↔◌, drop}
use Rattle.csp_rows.specs.Measures.{AreShallow}
use Rattle.csp_rows.proofs.limits.are_shallow.Given as goal

abbrev pub invariant-loop-change : goal.invariant-loop-change
invariant-loop-change g l = AreShallow l.levels l.parts l.changes ↔ AreShallow l.levels l.parts (drop l.change-index l.changes)
