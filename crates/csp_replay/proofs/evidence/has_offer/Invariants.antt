-- None of the offers so far is the actions.
use Rattle.std.proofs.Common.{◌≡◌, map}
use Rattle.theory_runs.proofs.Scanning.{NoneBefore}
use Rattle.csp_value.specs.Action.{action_of}
use Rattle.csp_replay.proofs.evidence.has_offer.Given as goal

abbrev pub invariant-loop-offer : goal.invariant-loop-offer
invariant-loop-offer g l = NoneBefore (λ xs. xs ≡ map action_of l.actions) (map (λ offer. map action_of offer.items) l.offers) l.offer-index
