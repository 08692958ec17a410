use Rattle.std.proofs.Common.{◌≡◌, map, take}
use Rattle.csp_value.specs.Action.{action_of}
use Rattle.csp_fire.proofs.offers.copy_offers.Given as goal

abbrev pub invariant-loop-offer : goal.invariant-loop-offer
invariant-loop-offer g l = map (λ xs. map action_of xs.items) l.copies.items ≡ map (λ xs. map action_of xs.items) (take l.offer-index l.offers)
