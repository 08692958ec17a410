use Rattle.std.proofs.Common.{◌≡◌, ◌+◌}
use Rattle.std.specs.Prelude.{length, map, take}
use Rattle.theory_checking.specs.Rules.{all_declared}
use Rattle.csp_parse.specs.Declarations.{declaration_of, script_of}
use Rattle.csp_kinds.specs.Pass.{AreSetsSoFar}
use Rattle.csp_kinds.proofs.sets.sets_of.Given as goal

abbrev pub invariant-loop-passed : goal.invariant-loop-passed
invariant-loop-passed g l = record {
  counted : l.below + length (all_declared (map declaration_of (take l.passed l.declaration-items))) ≡ length l.fn.names.table.entries;
  so_far : AreSetsSoFar (script_of l.fn.raw) (map declaration_of (take l.passed l.declaration-items)) l.sets;
}
