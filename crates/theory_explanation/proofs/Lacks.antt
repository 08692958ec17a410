-- What is told of a specification at the end of a violation's path shows what is lacking.
use Rattle.std.proofs.Common.{◌≡◌, ◌≢◌, ℕ, Bool, true, false, not, cond, ⊎_elim, List, [], ◌∷◌, ◌++◌, Option, Some, None, Contains, refl, sym, ◌∙◌, ap, subst}
use Rattle.std.proofs.lemmas.Bool.{or_cases}
use Rattle.theory_syntax.specs.Value.{Action, action_eq, has_action}
use Rattle.theory_syntax.specs.Process.{Process, Script, Assertion, Property, RefinementOf, DeadlockFree, DivergenceFree, Traces, Failures, specification_of}
use Rattle.theory_semantics.specs.Meaning.Runs.{trace, IsTrace}
use Rattle.theory_semantics.specs.Meaning.Transitions.{IsVisible}
use Rattle.theory_semantics.specs.Meaning.Offers.{AllBut, CanDo, IsFailure}
use Rattle.theory_semantics.specs.Meaning.Violations.{Evidence, ByEvent, ByOffers, ByDeadlock, ByDivergence, IsEvidence, IsViolation, Violation}
use Rattle.theory_semantics.proofs.Offering.{action_same}
use Rattle.theory_semantics.proofs.Running.{Run-snoc, snoc_trace}
use Rattle.theory_search.specs.Acceptances.{IsWithin, IsAcceptanceOfSome}
use Rattle.theory_runs.specs.States.{AreAfter}
use Rattle.theory_runs.proofs.Along.{along_last}
use Rattle.theory_explanation.specs.Counterexamples.{Along, Counterexample, Counterpart, HasAlong, IsCounterexample, IsCounterpartFor, ShowsLack, TooManyStates}
use Rattle.theory_explanation.specs.Lacking.{lacking}

-- ---- offers that lack nothing

one_more : (offer ys : List Action) (y : Action) → (lacking offer ys ≡ [] → IsWithin ys offer) → lacking offer (y ∷ ys) ≡ [] → IsWithin (y ∷ ys) offer
one_more offer ys y rest none x has = by (has_action offer y) refl
  where
    by : (b : Bool) → has_action offer y ≡ b → has_action offer x ≡ true
    by true there =
        let others : lacking offer ys ≡ [] = sym (ap (λ b. cond (not b) (y ∷ lacking offer ys) (lacking offer ys)) there) ∙ none in
        let P : Action → Type 0 = λ z. has_action offer z ≡ true in
        ⊎_elim (λ e. subst P (sym (action_same x y e)) there) (λ h. rest others x h) (or_cases (action_eq x y) (has_action ys x) has)
    by false missing =
        let some : y ∷ lacking offer ys ≡ [] = sym (ap (λ b. cond (not b) (y ∷ lacking offer ys) (lacking offer ys)) missing) ∙ none in absurd (cc some)

-- where an offer lacks nothing of an acceptance, the acceptance lies within it
nothing_lacks : (offer ys : List Action) → lacking offer ys ≡ [] → IsWithin ys offer
nothing_lacks offer [] none = λ x has. absurd (cc has)
nothing_lacks offer (y ∷ ys) none = one_more offer ys y (nothing_lacks offer ys) none

-- ---- what the specification has at the end

module _ (script : Script) (spec : Process) (s : List Action) (last : List Process) (after : AreAfter script spec s last) where
  -- an event that one of the states can do goes on with the trace
  goes_on : (x : Action) (u : Process) → IsVisible x → Contains last u → CanDo script u x → IsTrace script spec (s ++ x ∷ [])
  goes_on x u visible there can =
      let at = (after u).0 there in
      (can.0, (at.0 ++ x ∷ [], Run-snoc script at.0 spec u can.0 x at.1 can.1, snoc_trace at.0 x visible ∙ ap (λ t. t ++ x ∷ []) at.2))

  -- an acceptance that lies within an offer refuses all but that
  refuses : (offer ys : List Action) → IsAcceptanceOfSome script last ys → IsWithin ys offer → IsFailure script spec s (AllBut offer)
  refuses offer ys accepts within = (accepts.0, (after accepts.0).0 accepts.1, (ys, accepts.2, λ x has. ap not (within x has)))

-- ---- violations

module _ (script : Script) (path : List Action) (end spec : Process) (n : ℕ) (states : List (List Process)) (initials : List Action) (acceptances : List (List Action)) (told : HasAlong script spec path n states initials acceptances) where
  after : AreAfter script spec (trace path) told.last
  after = along_last script spec path states told.last told.along told.at_end

  lacks_event : (x : Action) → ¬ IsTrace script spec (trace path ++ x ∷ []) → ¬ Contains initials x
  lacks_event x lacks there =
      let is = (told.initials_of.each x).0 there in
      lacks (goes_on script spec (trace path) told.last after x is.1.0 is.0 is.1.1 is.1.2)

  lacks_offer : (xs : List Action) → ¬ IsFailure script spec (trace path) (AllBut xs) → (ys : List Action) → Contains acceptances ys → lacking xs ys ≢ []
  lacks_offer xs lacks ys there none =
      lacks (refuses script spec (trace path) told.last after xs ys ((told.acceptances_of.each ys).0 there).is (nothing_lacks xs ys none))

  shows : (p : Property) → specification_of p ≡ Some spec → (e : Evidence) → IsEvidence script p path end e → ShowsLack e (Along states initials acceptances)
  shows (RefinementOf model other) same (ByEvent x) evidence =
      let is : other ≡ spec = cc same in
      let P : Process → Type 0 = λ q. ¬ IsTrace script q (trace path ++ x ∷ []) in
      lacks_event x (subst P is evidence.2)
  shows (RefinementOf Failures other) same (ByOffers xs) evidence =
      let is : other ≡ spec = cc same in
      let P : Process → Type 0 = λ q. ¬ IsFailure script q (trace path) (AllBut xs) in
      lacks_offer xs (subst P is evidence.1)
  shows (RefinementOf Traces other) same (ByOffers xs) evidence = absurd evidence
  shows (RefinementOf model other) same ByDeadlock evidence = tt
  shows (RefinementOf model other) same ByDivergence evidence = tt
  shows DeadlockFree same e evidence = absurd (cc same)
  shows DivergenceFree same e evidence = absurd (cc same)

too_many_show : (e : Evidence) → ShowsLack e TooManyStates
too_many_show (ByEvent x) = tt
too_many_show (ByOffers xs) = tt
too_many_show ByDeadlock = tt
too_many_show ByDivergence = tt

pub counterpart_shows : (script : Script) (a : Assertion) (v : Violation) (n : ℕ) (found : Counterexample) (told : Counterpart) → IsViolation script a v → IsCounterexample script a v n found → found.counterpart ≡ Some told → ShowsLack v.evidence told
counterpart_shows script a v n found told violation is same =
    by (specification_of a.property) refl told (subst (λ c. IsCounterpartFor script (specification_of a.property) v.path n c) same is.counterpart)
  where
    by : (spec : Option Process) → specification_of a.property ≡ spec → (c : Counterpart) → IsCounterpartFor script spec v.path n (Some c) → ShowsLack v.evidence c
    by None none c has = absurd has
    by (Some spec) some (Along states initials acceptances) has = shows script v.path violation.end spec n states initials acceptances has a.property some v.evidence violation.evidence
    by (Some spec) some TooManyStates has = too_many_show v.evidence
