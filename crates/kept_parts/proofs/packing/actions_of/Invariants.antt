use Rattle.std.proofs.Common.{◌≡◌, map, take}
use Rattle.csp_value.specs.Action.{action_of as action_told}
use Rattle.kept_parts.specs.Places.{action_in}
use Rattle.kept_parts.proofs.packing.actions_of.Given as goal

abbrev pub invariant-loop-number : goal.invariant-loop-number
invariant-loop-number g l = map action_told l.actions.items ≡ map (action_in l.alphabet) (take l.number-index l.numbers)
