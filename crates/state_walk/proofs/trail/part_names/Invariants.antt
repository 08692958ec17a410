-- The names behind the moves so far.
use Rattle.std.proofs.Common.{◌≡◌, [], drop, map}
use Rattle.theory_explanation.specs.PartNames.{names_along}
use Rattle.counterexample.specs.PartNames.{part_names_listed}
use Rattle.state_walk.specs.Walks.{origin_in}
use Rattle.state_walk.proofs.trail.part_names.Given as goal

abbrev pub invariant-loop-one : goal.invariant-loop-one
invariant-loop-one g l = names_along (part_names_listed l.parts.items) (map origin_in (drop l.one-index l.taken)) ≡ names_along [] (map origin_in l.taken)
