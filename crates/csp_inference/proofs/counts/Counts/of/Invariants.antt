use Rattle.std.proofs.Common.{map, take}
use Rattle.csp_parse.specs.Declarations.{declaration_of}
use Rattle.csp_inference.specs.Counts.{AreCountsOf}
use Rattle.csp_inference.proofs.counts.Counts.of.Given as goal

abbrev pub invariant-loop-declaration : goal.invariant-loop-declaration
invariant-loop-declaration g l = AreCountsOf (map declaration_of (take l.declaration-index l.declarations)) l.counts
