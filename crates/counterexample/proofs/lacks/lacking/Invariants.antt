-- What is lacking of the first actions.
use Rattle.std.proofs.Common.{◌≡◌, map, take}
use Rattle.csp_value.specs.Action.{action_of}
use Rattle.theory_explanation.specs.Lacking.{lacking}
use Rattle.counterexample.proofs.lacks.lacking.Given as goal

abbrev pub invariant-loop-action : goal.invariant-loop-action
invariant-loop-action g l = map action_of l.lacks.items ≡ lacking (map action_of l.offer) (map action_of (take l.action-index l.acceptance))
