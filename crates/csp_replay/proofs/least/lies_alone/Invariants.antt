-- None of the first lists but the actions themselves lies within them.
use Rattle.std.proofs.Common.{◌≡◌, map}
use Rattle.theory_search.specs.Acceptances.{IsWithin}
use Rattle.theory_runs.proofs.Scanning.{EachBefore}
use Rattle.csp_value.specs.Action.{action_of}
use Rattle.csp_replay.specs.Offers.{offers_listed}
use Rattle.csp_replay.proofs.least.lies_alone.Given as goal

abbrev pub invariant-loop-offer : goal.invariant-loop-offer
invariant-loop-offer g l = EachBefore (λ ys. IsWithin ys (map action_of l.actions) → ys ≡ map action_of l.actions) (offers_listed l.offers) l.offer-index
