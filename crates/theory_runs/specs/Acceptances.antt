-- What some states offer at least.
use Rattle.std.specs.Prelude.{◌≡◌, ◌↔◌, List, Contains}
use Rattle.theory_syntax.specs.Value.{Action}
use Rattle.theory_syntax.specs.Process.{Process, Script}
use Rattle.theory_semantics.specs.Meaning.Offers.{IsAcceptance, RisesBy}
use Rattle.theory_semantics.specs.Meaning.Expansions.{offers_cmp}
use Rattle.theory_search.specs.Acceptances.{IsWithin, IsAcceptanceOfSome}

-- an acceptance of the states in which no other lies
pub record IsLeastAcceptance (script : Script) (states : List Process) (xs : List Action) : Type 0 where
  pub is : IsAcceptanceOfSome script states xs
  pub least : (ys : List Action) → IsAcceptanceOfSome script states ys → IsWithin ys xs → ys ≡ xs

-- the least acceptances of the states: sorted, each once
pub record AreLeastAcceptances (script : Script) (states : List Process) (offers : List (List Action)) : Type 0 where
  pub rising : RisesBy offers_cmp offers
  pub each : (xs : List Action) → Contains offers xs ↔ IsLeastAcceptance script states xs

-- ---- on the way

-- the lists are exactly the acceptances of the term
abbrev pub AreOffers : Script → Process → List (List Action) → Type 0
AreOffers script t offers = (xs : List Action) → IsAcceptance script t xs ↔ Contains offers xs

-- none of the lists but this one itself lies within it
abbrev pub LiesAlone : List (List Action) → List Action → Type 0
LiesAlone offers xs = (ys : List Action) → Contains offers ys → IsWithin ys xs → ys ≡ xs

-- it is one of the lists, and no other of them lies within it
pub record IsLeastAmong (offers : List (List Action)) (xs : List Action) : Type 0 where
  pub is : Contains offers xs
  pub alone : LiesAlone offers xs
