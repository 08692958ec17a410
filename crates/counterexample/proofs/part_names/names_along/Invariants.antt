use Rattle.std.proofs.Common.{◌≡◌, [], drop}
use Rattle.theory_explanation.specs.PartNames.{names_along}
use Rattle.counterexample.specs.Counterexample.{origins_listed}
use Rattle.counterexample.specs.PartNames.{part_names_listed}
use Rattle.counterexample.proofs.part_names.names_along.Given as goal

abbrev pub invariant-loop-origin : goal.invariant-loop-origin
invariant-loop-origin g l = names_along (part_names_listed l.parts.items) (origins_listed (drop l.origin-index l.origins)) ≡ names_along [] (origins_listed l.origins)
