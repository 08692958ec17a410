-- What some states offer, and which of their acceptances are least.
use Rattle.std.proofs.Common.{◌≡◌, ◌↔◌, List, [], true, Contains, refl, sym, subst}
use Rattle.theory_syntax.specs.Value.{Action, action_eq, has_action}
use Rattle.theory_syntax.specs.Process.{Process, Script}
use Rattle.theory_semantics.specs.Meaning.Transitions.{IsNotStuck}
use Rattle.theory_semantics.specs.Meaning.Offers.{RisesBy}
use Rattle.theory_semantics.specs.Meaning.Expansions.{offers_cmp, IsFired}
use Rattle.theory_semantics.proofs.Offering.{action_same, action_refl}
use Rattle.theory_semantics.proofs.Rising.{stands_from_Contains, Contains-from_stands, told_stands, stands_told}
use Rattle.theory_search.specs.Acceptances.{IsWithin, IsAcceptanceOfSome}
use Rattle.theory_runs.specs.Acceptances.{AreLeastAcceptances, AreOffers, IsLeastAcceptance, IsLeastAmong, LiesAlone}
use Rattle.theory_runs.specs.Gathering.{Gathers}
use Rattle.theory_runs.proofs.Gathering.{gathers_alone}
use Rattle.theory_runs.proofs.Showing.{accepts_free}

-- ---- the acceptances of one state

-- those that a firing shows
pub fired_offers : (script : Script) (t : Process) (steps : List (Action × Process)) (offers : List (List Action)) → IsFired script t steps offers → AreOffers script t offers
fired_offers script t steps offers fired = fired.each_offer

-- a stuck term has none
pub no_offers : (script : Script) (t : Process) → (IsNotStuck script t → ⊥) → AreOffers script t []
no_offers script t stuck xs = (λ accepts. absurd (stuck (accepts_free script t xs accepts)), λ c. absurd (cc (stands_from_Contains [] xs c).1))

-- ---- lists within others

has_from : (xs : List Action) (x : Action) → has_action xs x ≡ true → Contains xs x
has_from xs x e = Contains-from_stands xs x (told_stands action_eq action_same has_action (λ y f. cc f) (λ y ys z. refl) xs x e)

has_of : (xs : List Action) (x : Action) → Contains xs x → has_action xs x ≡ true
has_of xs x c = let at = stands_from_Contains xs x c in stands_told action_eq action_refl has_action (λ y ys z. refl) xs x at.0 at.1

pub within_by_members : (ys xs : List Action) → ((y : Action) → Contains ys y → Contains xs y) → IsWithin ys xs
within_by_members ys xs each x has = has_of xs x (each x (has_from ys x has))

pub members_within : (ys xs : List Action) → IsWithin ys xs → (y : Action) → Contains ys y → Contains xs y
members_within ys xs within y c = has_from xs y (within y (has_of ys y c))

-- ---- the least of some lists

-- it is this one of the lists, and no other of them lies within it
abbrev pub IsThisAlone : List (List Action) → List Action → List Action → Type 0
IsThisAlone offers ys xs = (xs ≡ ys) × LiesAlone offers ys

pub this_alone : (offers : List (List Action)) (ys : List Action) → LiesAlone offers ys → (xs : List Action) → (xs ≡ ys) ↔ IsThisAlone offers ys xs
this_alone offers ys alone xs = (λ e. (e, alone), λ h. h.0)

pub this_not : (offers : List (List Action)) (ys : List Action) → (LiesAlone offers ys → ⊥) → (xs : List Action) → ¬ IsThisAlone offers ys xs
this_not offers ys not_alone xs h = not_alone h.1

pub least_among : (offers : List (List Action)) (xs : List Action) → ((ys : List Action) × Contains offers ys × IsThisAlone offers ys xs) ↔ IsLeastAmong offers xs
least_among offers xs = (
  λ h. record { is = subst (Contains offers) (sym h.2.0) h.1; alone = subst (LiesAlone offers) (sym h.2.0) h.2.1 },
  λ h. (xs, h.is, (refl, h.alone)),
)

-- ---- all states

pub least_told : (script : Script) (states : List Process) (all given offers : List (List Action)) → Gathers [] (IsAcceptanceOfSome script states) all → Gathers [] (IsLeastAmong all) given →
    ((xs : List Action) → Contains given xs ↔ Contains offers xs) → RisesBy offers_cmp offers →
    AreLeastAcceptances script states offers
least_told script states all given offers gathered least stays rising = record {
  rising = rising;
  each = λ xs. (
    λ c. from xs ((picked xs).0 ((stays xs).1 c)),
    λ h. (stays xs).0 ((picked xs).1 (to xs h)),
  );
}
  where
    accepted : (xs : List Action) → Contains all xs ↔ IsAcceptanceOfSome script states xs
    accepted = gathers_alone (IsAcceptanceOfSome script states) all gathered

    picked : (xs : List Action) → Contains given xs ↔ IsLeastAmong all xs
    picked = gathers_alone (IsLeastAmong all) given least

    from : (xs : List Action) → IsLeastAmong all xs → IsLeastAcceptance script states xs
    from xs h = record { is = (accepted xs).0 h.is; least = λ ys accepts within. h.alone ys ((accepted ys).1 accepts) within }

    to : (xs : List Action) → IsLeastAcceptance script states xs → IsLeastAmong all xs
    to xs h = record { is = (accepted xs).1 h.is; alone = λ ys c within. h.least ys ((accepted ys).0 c) within }
