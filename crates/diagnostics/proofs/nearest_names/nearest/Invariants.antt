use Rattle.std.proofs.Common.{map, take}
use Rattle.diagnostics.proofs.NearestSoFar.{IsNearestSoFar}
use Rattle.diagnostics.proofs.nearest_names.nearest.Given as goal

abbrev pub invariant-loop-name : goal.invariant-loop-name
invariant-loop-name g l = IsNearestSoFar l.word (map (λ name. name.now) (take l.name-index l.names)) l.nearest l.least
