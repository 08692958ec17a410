-- What a term accepts, by the actions of its steps.
use Rattle.std.proofs.Common.{◌≡◌, ◌↔◌, ◌⊎◌, inl, inr, ⊎_elim, List, [], ◌∷◌, ◌++◌, ℕ, zero, suc, Some, Bool, true, false, cond, map, refl, sym, subst, ◌∙◌, Contains, slice_get}
use Rattle.std.specs.Prelude.{IsTrue, IsFalse}
use Rattle.std.specs.Ordering.{is_le}
use Rattle.theory_syntax.specs.Process.{Process, Script}
use Rattle.theory_syntax.specs.Value.{Action, Tau, Tick, Ev, action_cmp, has_action}
use Rattle.theory_syntax.proofs.Members.{contains_cases, contains_here, contains_none, contains_one, contains_there}
use Rattle.theory_syntax.proofs.Orders.{action_ties, action_total}
use Rattle.theory_semantics.specs.Meaning.Expansions.{offers_cmp}
use Rattle.theory_semantics.specs.Meaning.Offers.{CanDo, IsAcceptance, IsAllThat, IsRising, IsStable, of_stable, of_tick}
use Rattle.theory_semantics.specs.Meaning.Stepping.{Steps}
use Rattle.theory_semantics.specs.Meaning.Transitions.{IsNotStuck, RuleStep}
use Rattle.theory_semantics.proofs.Rising.{Contains-from_stands, all_that_is_one, first_least, stands_from_Contains}
use Rattle.csp_rows.proofs.Accepting.{has_stands, stands_has}
use Rattle.csp_rows.proofs.Members.{map_contained, map_contains}
use Rattle.theory_shapes.specs.ShapeSteps.{IsShown}
use Rattle.theory_search.specs.Acceptances.{AreEnough, IsWithin}
use Rattle.theory_rows.specs.Enough.{IsEnough, actions_of, all_without, least_offers_by, offers_by, tick_alone}
use Rattle.theory_rows.proofs.Arranged.{arranged_members, arranged_rises}

-- ---- the actions of steps

abbrev DoneBy : Steps → Action → Type 0
DoneBy steps x = (u : Process) × Contains steps (x, u)

abbrev action_of : Action × Process → Action
action_of s = s.0

pub actions_rise : (steps : Steps) → IsRising (actions_of steps)
actions_rise steps = arranged_rises action_cmp action_total action_ties (map action_of steps)

has_done : (steps : Steps) (x : Action) → IsTrue (has_action (actions_of steps) x) → DoneBy steps x
has_done steps x has =
    let all = actions_of steps in
    let m = (arranged_members action_cmp action_total action_ties (map action_of steps) x).0 (Contains-from_stands all x (has_stands all x has)) in
    let s = map_contained action_of steps x m in
    (s.0.1, subst (λ (y : Action). Contains steps (y, s.0.1)) s.2 s.1)

done_has : (steps : Steps) (x : Action) → DoneBy steps x → IsTrue (has_action (actions_of steps) x)
done_has steps x (u, listed) =
    let all = actions_of steps in
    let m = (arranged_members action_cmp action_total action_ties (map action_of steps) x).1 (map_contains action_of steps (x, u) listed) in
    stands_has all x (stands_from_Contains all x m)

pub actions_told : (steps : Steps) → IsRising (actions_of steps) × ((x : Action) → IsTrue (has_action (actions_of steps) x) ↔ ((u : Process) × Contains steps (x, u)))
actions_told steps = (actions_rise steps, λ x. (has_done steps x, done_has steps x))

-- ---- acceptances

abbrev AreSteps : Script → Process → Steps → Type 0
AreSteps script t steps = (x : Action) (u : Process) → RuleStep script t x u ↔ Contains steps (x, u)

module _ (script : Script) (t : Process) (steps : Steps) (free : IsNotStuck script t) (are : AreSteps script t steps) where
  abbrev all : List Action
  all = actions_of steps

  can_has : (x : Action) → CanDo script t x → IsTrue (has_action all x)
  can_has x (u, step) = done_has steps x (u, (are x u).0 step.1)

  has_can : (x : Action) → IsTrue (has_action all x) → CanDo script t x
  has_can x has = let d = has_done steps x has in (d.0, (free, (are x d.0).1 d.1))

  all_that : IsAllThat script t all
  all_that = record { rising = actions_rise steps; each = λ x. (has_can x, can_has x) }

  stable_where : IsFalse (has_action all Tau) → IsStable script t
  stable_where none = record { not_stuck = free; no_tau = λ u step. let h = can_has Tau (u, (free, step)) in let e = sym h ∙ none in cc e }

  all_accepted : IsFalse (has_action all Tau) → IsAcceptance script t all
  all_accepted none = of_stable (stable_where none) all_that

  no_tau : IsStable script t → IsFalse (has_action all Tau)
  no_tau stable = by_test (has_action all Tau) refl
    where
      by_test : (b : Bool) → has_action all Tau ≡ b → IsFalse b
      by_test true e = absurd (let d = has_can Tau e in stable.no_tau d.0 d.1.1)
      by_test false e = refl

  -- acceptances are tick alone, or all
  abbrev Cases : List Action → Type 0
  Cases xs = (IsTrue (has_action all Tick) × (xs ≡ Tick ∷ [])) ⊎ (IsFalse (has_action all Tau) × (xs ≡ all))

  cases : (xs : List Action) → IsAcceptance script t xs → Cases xs
  cases xs (of_stable stable that) = inr (no_tau stable, all_that_is_one script t xs all that all_that)
  cases xs (of_tick can) = inl (can_has Tick can, refl)

  from_cases : (xs : List Action) → Cases xs → IsAcceptance script t xs
  from_cases xs (inl h) = subst (λ ys. IsAcceptance script t ys) (sym h.1) (of_tick (has_can Tick h.0))
  from_cases xs (inr h) = subst (λ ys. IsAcceptance script t ys) (sym h.1) (all_accepted h.0)

  one_of : (xs ys : List Action) → xs ≡ ys → Contains (ys ∷ []) xs
  one_of xs ys e = subst (λ zs. Contains (ys ∷ []) zs) (sym e) (contains_here ys [])

  -- what is listed, by the two tests
  listed_cases : (tick tau : Bool) (xs : List Action) → Contains (tick_alone tick ++ all_without tau all) xs ↔ ((IsTrue tick × (xs ≡ Tick ∷ [])) ⊎ (IsFalse tau × (xs ≡ all)))
  listed_cases true true xs = (λ h. inl (refl, sym (contains_one (Tick ∷ []) xs h)), λ h. ⊎_elim (λ k. one_of xs (Tick ∷ []) k.1) (λ k. absurd (let e = k.0 in cc e)) h)
  listed_cases true false xs = (
    λ h. ⊎_elim (λ e. inl (refl, sym e)) (λ k. inr (refl, sym (contains_one all xs k))) (contains_cases (Tick ∷ []) (all ∷ []) xs h),
    λ h. ⊎_elim (λ k. subst (λ zs. Contains ((Tick ∷ []) ∷ all ∷ []) zs) (sym k.1) (contains_here (Tick ∷ []) (all ∷ []))) (λ k. contains_there (Tick ∷ []) (all ∷ []) xs (one_of xs all k.1)) h,
  )
  listed_cases false true xs = (λ h. absurd (contains_none xs h), λ h. ⊎_elim (λ k. absurd (let e = k.0 in cc e)) (λ k. absurd (let e = k.0 in cc e)) h)
  listed_cases false false xs = (λ h. inr (refl, sym (contains_one all xs h)), λ h. ⊎_elim (λ k. absurd (let e = k.0 in cc e)) (λ k. one_of xs all k.1) h)

  pub all_shown : IsShown script t steps (offers_by all)
  all_shown = record {
    not_stuck = free;
    each_step = are;
    each_offer = λ xs. let l = listed_cases (has_action all Tick) (has_action all Tau) xs in (λ a. l.1 (cases xs a), λ h. from_cases xs (l.0 h));
  }

-- ---- tick alone is the least

within_itself : (xs : List Action) → IsWithin xs xs
within_itself xs x has = has

tick_first : (xs : List Action) → IsRising xs → IsTrue (has_action xs Tick) → (IsTrue (has_action xs Tau) → ⊥) → IsTrue (is_le (offers_cmp (Tick ∷ []) xs))
tick_first [] rise tick none = absurd (cc tick)
tick_first (Tau ∷ xs) rise tick none = absurd (none refl)
tick_first (Tick ∷ []) rise tick none = refl
tick_first (Tick ∷ x ∷ xs) rise tick none = refl
tick_first (Ev e ∷ xs) rise tick none = absurd (below (has_stands (Ev e ∷ xs) Tick tick))
  where
    below : (i : ℕ) × (slice_get (Ev e ∷ xs) i ≡ Some Tick) → ⊥
    below (zero, at) = let f : Some (Ev e) ≡ Some Tick = at in cc f
    below (suc i, at) = let f = first_least action_cmp action_total (Ev e) xs rise i Tick at in cc f

tick_within : (xs : List Action) → IsTrue (has_action xs Tick) → IsWithin (Tick ∷ []) xs
tick_within xs has Tick one = has
tick_within xs has Tau one = absurd (cc one)
tick_within xs has (Ev e) one = absurd (cc one)

pub tick_least : (script : Script) (t : Process) (xs : List Action) → IsAcceptance script t (Tick ∷ []) → IsAcceptance script t xs → IsWithin (Tick ∷ []) xs × IsTrue (is_le (offers_cmp (Tick ∷ []) xs))
tick_least script t xs first (of_tick can) = (within_itself (Tick ∷ []), refl)
tick_least script t xs first (of_stable stable that) =
    let can = can_tick first in
    let has = (that.each Tick).1 can in
    (tick_within xs has, tick_first xs that.rising has (λ tau. let c = (that.each Tau).0 tau in stable.no_tau c.0 c.1.1))
  where
    can_from : (ys : List Action) → ys ≡ Tick ∷ [] → IsAcceptance script t ys → CanDo script t Tick
    can_from ys e (of_tick can) = can
    can_from ys e (of_stable stable that) = (that.each Tick).0 (subst (λ zs. IsTrue (has_action zs Tick)) (sym e) refl)

    can_tick : IsAcceptance script t (Tick ∷ []) → CanDo script t Tick
    can_tick a = can_from (Tick ∷ []) refl a

pub one_acceptance : (script : Script) (t : Process) (xs ys : List Action) → (IsAcceptance script t (Tick ∷ []) → ⊥) → IsAcceptance script t xs → IsAcceptance script t ys → xs ≡ ys
one_acceptance script t xs ys none (of_stable stable that) (of_stable also other) = all_that_is_one script t xs ys that other
one_acceptance script t xs ys none (of_tick can) second = absurd (none (of_tick can))
one_acceptance script t xs ys none (of_stable stable that) (of_tick can) = absurd (none (of_tick can))

-- ---- enough

pub shown_enough : (script : Script) (t : Process) (steps : Steps) (offers : List (List Action)) → IsShown script t steps offers → IsEnough script t steps offers
shown_enough script t steps offers shown = record {
  not_stuck = shown.not_stuck;
  each_step = shown.each_step;
  accepted = record { each = λ ys h. (shown.each_offer ys).1 h; enough = λ ys a. (ys, (shown.each_offer ys).0 a, within_itself ys) };
}

pub least_enough : (script : Script) (t : Process) (steps : Steps) → IsNotStuck script t → AreSteps script t steps → IsEnough script t steps (least_offers_by (actions_of steps))
least_enough script t steps free are = record { not_stuck = free; each_step = are; accepted = by_test (has_action all Tick) (has_action all Tau) refl refl }
  where
    all : List Action
    all = actions_of steps

    by_test : (tick tau : Bool) → has_action (actions_of steps) Tick ≡ tick → has_action (actions_of steps) Tau ≡ tau → AreEnough (IsAcceptance script t) (cond tick ((Tick ∷ []) ∷ []) (all_without tau (actions_of steps)))
    by_test true tau has e =
        let accepted : IsAcceptance script t (Tick ∷ []) = of_tick (has_can script t steps free are Tick has) in
        record {
          each = λ ys h. subst (λ zs. IsAcceptance script t zs) (contains_one (Tick ∷ []) ys h) accepted;
          enough = λ ys a. (Tick ∷ [], contains_here (Tick ∷ []) [], (tick_least script t ys accepted a).0);
        }
    by_test false true has e = record {
      each = λ ys h. absurd (contains_none ys h);
      enough = λ ys a. absurd (⊎_elim (λ k. let f = sym k.0 ∙ has in cc f) (λ k. let f = sym k.0 ∙ e in cc f) (cases script t steps free are ys a));
    }
    by_test false false has e = record {
      each = λ ys h. subst (λ zs. IsAcceptance script t zs) (contains_one (actions_of steps) ys h) (all_accepted script t steps free are e);
      enough = λ ys a. (
        actions_of steps,
        contains_here (actions_of steps) [],
        ⊎_elim (λ k. absurd (let f = sym k.0 ∙ has in cc f)) (λ k. subst (λ zs. IsWithin (actions_of steps) zs) (sym k.1) (within_itself (actions_of steps))) (cases script t steps free are ys a),
      );
    }
