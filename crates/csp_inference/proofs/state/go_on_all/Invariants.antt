use Rattle.std.proofs.Common.{◌≡◌, ◌++◌, map, take, drop}
use Rattle.std.specs.Prelude.{option_map}
use Rattle.theory_checking.specs.Inference.Chain.{in_place_of, with_ends}
use Rattle.csp_inference.specs.Chain.{end_of, over_all}
use Rattle.csp_inference.specs.State.{chains_in}
use Rattle.csp_inference.proofs.state.go_on_all.Given as goal

abbrev pub invariant-loop-slot : goal.invariant-loop-slot
invariant-loop-slot g l =
    chains_in l.slots
    ≡ map (option_map (with_ends (in_place_of l.number.0 (over_all l.layers (end_of l.end))))) (take l.slot-index (chains_in l.initial.slots))
    ++ drop l.slot-index (chains_in l.initial.slots)
