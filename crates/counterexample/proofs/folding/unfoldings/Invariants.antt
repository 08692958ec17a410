-- What was found, and what the steps that are left unfold, is what all of them do.
use Rattle.std.proofs.Common.{◌≡◌, ◌++◌, drop}
use Rattle.theory_explanation.specs.Folding.{unfoldings}
use Rattle.counterexample.specs.Counterexample.{origins_listed}
use Rattle.counterexample.specs.Folding.{equations_listed}
use Rattle.counterexample.proofs.folding.unfoldings.Given as goal

abbrev pub invariant-loop-place : goal.invariant-loop-place
invariant-loop-place g l = equations_listed l.equations.items ++ unfoldings (drop l.place (origins_listed l.origins)) ≡ unfoldings (origins_listed l.origins)
