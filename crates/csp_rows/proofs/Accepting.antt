-- What is accepted, by actions in order.
use Rattle.std.proofs.Common.{◌≡◌, ◌↔◌, ◌⊎◌, List, [], ◌∷◌, zero, suc, Some, map, refl, sym, ◌∙◌, subst, inl, inr, ⊎_elim, Contains, true}
use Rattle.std.specs.Prelude.{IsTrue}
use Rattle.std.specs.Ordering.{is_lt}
use Rattle.std.specs.declared.cmp.Ordering.TheVariants.{Less}
use Rattle.theory_syntax.specs.Value.{Action, Tau, Tick, Ev, action_cmp, action_eq, has_action}
use Rattle.theory_syntax.proofs.Members.{contains_cases, contains_here, contains_none, contains_one, contains_there}
use Rattle.theory_syntax.proofs.Orders.{action_total}
use Rattle.theory_semantics.specs.Meaning.Expansions.{offers_cmp}
use Rattle.theory_semantics.specs.Meaning.Offers.{IsRising, RisesBy}
use Rattle.theory_semantics.proofs.Offering.{action_refl, action_same}
use Rattle.theory_semantics.proofs.Rising.{Stands, first_least, rising_same, stands_told, told_stands}
use Rattle.csp_rows.specs.declared.numbers.ActionId.{ActionId}
use Rattle.csp_rows.specs.declared.numbers.ActionId.TheVariants as by_number
use Rattle.csp_rows.specs.Numbering.{Numbering, action_at}
use Rattle.csp_rows.specs.InOrder.{offers_in, offers_of}

pub has_stands : (xs : List Action) (x : Action) → has_action xs x ≡ true → Stands xs x
has_stands = told_stands action_eq action_same has_action (λ x e. cc e) (λ y ys x. refl)

pub stands_has : (xs : List Action) (x : Action) → Stands xs x → has_action xs x ≡ true
stands_has xs x at = stands_told action_eq action_refl has_action (λ y ys w. refl) xs x at.0 at.1

-- the first of actions that rise is less than each other one
least : (x : Action) (ys : List Action) → IsRising (x ∷ ys) → (y : Action) → Stands (x ∷ ys) y → (x ≡ y) ⊎ (action_cmp x y ≡ Less)
least x ys rise y (zero, at) = let f : Some x ≡ Some y = at in inl (cc f)
least x ys rise y (suc i, at) = inr (first_least action_cmp action_total x ys rise i y at)

tau_first : (x : Action) → (x ≡ Tau) ⊎ (action_cmp x Tau ≡ Less) → x ≡ Tau
tau_first Tau h = refl
tau_first Tick h = absurd (⊎_elim (λ e. cc e) (λ e. cc e) h)
tau_first (Ev e) h = absurd (⊎_elim (λ f. cc f) (λ f. cc f) h)

-- no action before tau, and none but tau before tick
no_tau_in : (x : Action) (ys : List Action) → IsRising (x ∷ ys) → (x ≡ Tau → ⊥) → has_action (x ∷ ys) Tau ≡ true → ⊥
no_tau_in x ys rise other has = other (tau_first x (least x ys rise Tau (has_stands (x ∷ ys) Tau has)))

no_tick_in : (x : Action) (ys : List Action) → IsRising (x ∷ ys) → (x ≡ Tick → ⊥) → (action_cmp x Tick ≡ Less → ⊥) → has_action (x ∷ ys) Tick ≡ true → ⊥
no_tick_in x ys rise other above has = ⊎_elim other above (least x ys rise Tick (has_stands (x ∷ ys) Tick has))

module _ (H : Action → Type 0) where
  -- accepted where these are the actions that can be done
  abbrev pub Accepts : List Action → Type 0
  Accepts xs = ((H Tau → ⊥) × IsRising xs × ((x : Action) → IsTrue (has_action xs x) ↔ H x)) ⊎ (H Tick × (xs ≡ Tick ∷ []))

  abbrev pub Exact : List (List Action) → Type 0
  Exact offers = ((xs : List Action) → Accepts xs ↔ Contains offers xs) × RisesBy offers_cmp offers

  module _ (all : List Action) (rise : IsRising all) (each : (x : Action) → IsTrue (has_action all x) ↔ H x) where
    told : (xs : List Action) → Accepts xs → ((H Tau → ⊥) × (xs ≡ all)) ⊎ (H Tick × (xs ≡ Tick ∷ []))
    told xs (inl (no_tau, rising, also)) =
        inl (
          no_tau,
          rising_same action_cmp action_total xs all rising rise (λ x at. has_stands all x ((each x).1 ((also x).0 (stands_has xs x at)))) (λ x at. has_stands xs x ((also x).1 ((each x).0 (stands_has all x at)))),
        )
    told xs (inr h) = inr h

    among : (offers : List (List Action)) (xs ys : List Action) → xs ≡ ys → Contains offers ys → Contains offers xs
    among offers xs ys e has = subst (λ zs. Contains offers zs) (sym e) has

    all_accepted : (H Tau → ⊥) → Accepts all
    all_accepted no_tau = inl (no_tau, rise, each)

    tick_accepted : H Tick → Accepts (Tick ∷ [])
    tick_accepted tick = inr (tick, refl)

    all_only : (H Tau → ⊥) → (H Tick → all ≡ Tick ∷ []) → Exact (all ∷ [])
    all_only no_tau alone = (
      λ xs. (
        λ a. ⊎_elim (λ e. among (all ∷ []) xs all e.1 (contains_here all [])) (λ e. among (all ∷ []) xs all (e.1 ∙ sym (alone e.0)) (contains_here all [])) (told xs a),
        λ h. subst Accepts (contains_one all xs h) (all_accepted no_tau),
      ),
      tt,
    )

    nothing : H Tau → (H Tick → ⊥) → Exact []
    nothing tau no_tick = (λ xs. (λ a. absurd (⊎_elim (λ e. e.0 tau) (λ e. no_tick e.0) (told xs a)), λ h. absurd (contains_none xs h)), tt)

    tick_only : H Tau → H Tick → Exact ((Tick ∷ []) ∷ [])
    tick_only tau tick =
        let t : List Action = Tick ∷ [] in (
          λ xs. (λ a. ⊎_elim (λ e. absurd (e.0 tau)) (λ e. among (t ∷ []) xs t e.1 (contains_here t [])) (told xs a), λ h. subst Accepts (contains_one t xs h) (tick_accepted tick)),
          tt,
        )

    tick_and_all : (H Tau → ⊥) → H Tick → IsTrue (is_lt (offers_cmp (Tick ∷ []) all)) → Exact ((Tick ∷ []) ∷ all ∷ [])
    tick_and_all no_tau tick less =
        let t : List Action = Tick ∷ [] in
        let both : List (List Action) = t ∷ all ∷ [] in (
          λ xs. (
            λ a. ⊎_elim (λ e. among both xs all e.1 (contains_there t (all ∷ []) all (contains_here all []))) (λ e. among both xs t e.1 (contains_here t (all ∷ []))) (told xs a),
            λ h. ⊎_elim (λ e. subst Accepts e (tick_accepted tick)) (λ more. subst Accepts (contains_one all xs more) (all_accepted no_tau)) (contains_cases t (all ∷ []) xs h),
          ),
          (less, tt),
        )

  module _ (z : Numbering) where
    abbrev actions : List ActionId → List Action
    actions xs = map (action_at z) xs

    abbrev Are : List ActionId → Type 0
    Are xs = (x : Action) → IsTrue (has_action (actions xs) x) ↔ H x

    pub exact_offers : (xs : List ActionId) → IsRising (actions xs) → Are xs → Exact (offers_in z (offers_of xs))
    exact_offers [] rise each = all_only [] rise each (λ h. let e = (each Tau).1 h in cc e) (λ h. absurd (let e = (each Tick).1 h in cc e))
    exact_offers (by_number.Tau ∷ []) rise each = nothing (Tau ∷ []) rise each ((each Tau).0 refl) (λ h. let e = (each Tick).1 h in cc e)
    exact_offers (by_number.Tau ∷ by_number.Tau ∷ xs) rise each = absurd (let e = rise.0 in cc e)
    exact_offers (by_number.Tau ∷ by_number.Tick ∷ xs) rise each = tick_only (Tau ∷ Tick ∷ actions xs) rise each ((each Tau).0 refl) ((each Tick).0 refl)
    exact_offers (by_number.Tau ∷ by_number.Event n ∷ xs) rise each =
        nothing (Tau ∷ Ev (z.event n.0) ∷ actions xs) rise each ((each Tau).0 refl) (λ h. no_tick_in (Ev (z.event n.0)) (actions xs) rise.1 (λ e. cc e) (λ e. cc e) ((each Tick).1 h))
    exact_offers (by_number.Tick ∷ []) rise each = all_only (Tick ∷ []) rise each (λ h. let e = (each Tau).1 h in cc e) (λ h. refl)
    exact_offers (by_number.Tick ∷ x ∷ xs) rise each =
        tick_and_all (Tick ∷ action_at z x ∷ actions xs) rise each (λ h. no_tau_in Tick (action_at z x ∷ actions xs) rise (λ e. cc e) ((each Tau).1 h)) ((each Tick).0 refl) refl
    exact_offers (by_number.Event n ∷ xs) rise each =
        all_only (Ev (z.event n.0) ∷ actions xs) rise each (λ h. no_tau_in (Ev (z.event n.0)) (actions xs) rise (λ e. cc e) ((each Tau).1 h))
        (λ h. absurd (no_tick_in (Ev (z.event n.0)) (actions xs) rise (λ e. cc e) (λ e. cc e) ((each Tick).1 h)))
