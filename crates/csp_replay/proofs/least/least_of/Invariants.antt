-- Those of the first lists in which no other one lies.
use Rattle.std.proofs.Common.{[]}
use Rattle.theory_runs.specs.Gathering.{Gathers}
use Rattle.theory_runs.proofs.Gathering.{IsOfFirst}
use Rattle.theory_runs.proofs.Acceptances.{IsThisAlone}
use Rattle.csp_replay.specs.Offers.{offers_listed}
use Rattle.csp_replay.proofs.least.least_of.Given as goal

abbrev pub invariant-loop-offer : goal.invariant-loop-offer
invariant-loop-offer g l = Gathers [] (IsOfFirst (IsThisAlone (offers_listed l.offers)) (offers_listed l.offers) l.offer-index) (offers_listed l.least.items)
