-- The actions of sorted steps, each once.
use Rattle.std.proofs.Common.{◌≡◌, Bool, true, false, ◌||◌, cond, List, [], ◌∷◌, map, refl, sym, ◌∙◌, ap, subst, inl, inr, ◌⊎◌, ⊎_elim}
use Rattle.std.proofs.lemmas.Bool.{or_cases, or_left, or_right}
use Rattle.std.specs.Prelude.{⊤}
use Rattle.std.specs.declared.cmp.Ordering.{Ordering}
use Rattle.std.specs.declared.cmp.Ordering.TheVariants.{Less, Equal, Greater}
use Rattle.std.specs.Ordering.{is_eq, is_lt, ordering_then}
use Rattle.theory_syntax.specs.Value.{Action, action_cmp, action_eq, has_action}
use Rattle.theory_syntax.specs.Order.{process_cmp}
use Rattle.theory_syntax.specs.Process.{Process}
use Rattle.theory_semantics.specs.Meaning.Expansions.{step_cmp}
use Rattle.theory_semantics.specs.Meaning.Offers.{IsRising, RisesBy}
use Rattle.theory_semantics.specs.Meaning.Stepping.{Steps}
use Rattle.theory_semantics.specs.Laws.Statements.{IsOneOf}
use Rattle.theory_semantics.proofs.Offering.{action_refl, action_same}
use Rattle.csp_fire.specs.Offering.{actions_of, actions_once, behind_action}

-- ---- each action once

behind_from : (x z : Action) (ys : List Action) → has_action (behind_action x ys) z ≡ true → has_action ys z ≡ true
behind_from x z [] h = h
behind_from x z (y ∷ ys) h = by_test (action_eq x y) refl (behind_from x z ys) (behind_from y z ys)
  where
    by_test : (b : Bool) → action_eq x y ≡ b → (has_action (behind_action x ys) z ≡ true → has_action ys z ≡ true) → (has_action (behind_action y ys) z ≡ true → has_action ys z ≡ true) → action_eq z y || has_action ys z ≡ true
    by_test true is one other = or_right (action_eq z y) (has_action ys z) (one (sym (ap (λ c. has_action (cond c (behind_action x ys) (y ∷ behind_action y ys)) z) is) ∙ h))
    by_test false is one other =
        let g : action_eq z y || has_action (behind_action y ys) z ≡ true = sym (ap (λ c. has_action (cond c (behind_action x ys) (y ∷ behind_action y ys)) z) is) ∙ h in
        ⊎_elim (λ k. or_left (action_eq z y) (has_action ys z) k) (λ k. or_right (action_eq z y) (has_action ys z) (other k)) (or_cases (action_eq z y) (has_action (behind_action y ys) z) g)

-- z is x, or is left
abbrev Left : Action → List Action → Action → Type 0
Left x ys z = (action_eq z x ≡ true) ⊎ (has_action (behind_action x ys) z ≡ true)

-- what is left behind x of y and others, by whether y is x again
abbrev behind_by : Action → Action → List Action → Bool → List Action
behind_by x y ys again = cond again (behind_action x ys) (y ∷ behind_action y ys)

abbrev Among : Action → Action → List Action → Action → Bool → Type 0
Among x y ys z again = has_action (behind_by x y ys again) z ≡ true

behind_has : (x z : Action) (ys : List Action) → has_action ys z ≡ true → Left x ys z
behind_has x z [] h = absurd (cc h)
behind_has x z (y ∷ ys) h = by_test (action_eq x y) refl (or_cases (action_eq z y) (has_action ys z) h) (behind_has x z ys) (behind_has y z ys)
  where
    by_test : (b : Bool) → action_eq x y ≡ b → (action_eq z y ≡ true) ⊎ (has_action ys z ≡ true) → (has_action ys z ≡ true → Left x ys z) → (has_action ys z ≡ true → Left y ys z) → (action_eq z x ≡ true) ⊎ Among x y ys z (action_eq x y)
    by_test true is (inl k) one other = let e : x ≡ y = action_same x y is in inl (subst (λ w. action_eq z w ≡ true) (sym e) k)
    by_test true is (inr k) one other = ⊎_elim (λ m. inl m) (λ m. inr (subst (Among x y ys z) (sym is) m)) (one k)
    by_test false is (inl k) one other = inr (subst (Among x y ys z) (sym is) (or_left (action_eq z y) (has_action (behind_action y ys) z) k))
    by_test false is (inr k) one other =
        inr (subst (Among x y ys z) (sym is) (⊎_elim (λ m. or_left (action_eq z y) (has_action (behind_action y ys) z) m) (λ m. or_right (action_eq z y) (has_action (behind_action y ys) z) m) (other k)))

once_from : (xs : List Action) (z : Action) → has_action (actions_once xs) z ≡ true → has_action xs z ≡ true
once_from [] z h = h
once_from (x ∷ xs) z h = ⊎_elim (λ k. or_left (action_eq z x) (has_action xs z) k) (λ k. or_right (action_eq z x) (has_action xs z) (behind_from x z xs k)) (or_cases (action_eq z x) (has_action (behind_action x xs) z) h)

once_has : (xs : List Action) (z : Action) → has_action xs z ≡ true → has_action (actions_once xs) z ≡ true
once_has [] z h = h
once_has (x ∷ xs) z h =
    ⊎_elim (λ k. or_left (action_eq z x) (has_action (behind_action x xs) z) k)
    (λ k. ⊎_elim (λ m. or_left (action_eq z x) (has_action (behind_action x xs) z) m) (λ m. or_right (action_eq z x) (has_action (behind_action x xs) z) m) (behind_has x z xs k)) (or_cases (action_eq z x) (has_action xs z) h)

done_from : (ss : Steps) (z : Action) → has_action (map (λ s. s.0) ss) z ≡ true → (u : Process) × IsOneOf ss z u
done_from [] z h = absurd (cc h)
done_from (s ∷ ss) z h =
    ⊎_elim (λ k. (s.1, inl (action_same z s.0 k, refl))) (λ k. let r = done_from ss z k in (r.0, inr r.1)) (or_cases (action_eq z s.0) (has_action (map (λ s. s.0) ss) z) h)

done_has : (ss : Steps) (z : Action) (u : Process) → IsOneOf ss z u → has_action (map (λ s. s.0) ss) z ≡ true
done_has [] z u h = absurd h
done_has (s ∷ ss) z u (inl e) = or_left (action_eq z s.0) (has_action (map (λ s. s.0) ss) z) (subst (λ w. action_eq z w ≡ true) e.0 (action_refl z))
done_has (s ∷ ss) z u (inr h) = or_right (action_eq z s.0) (has_action (map (λ s. s.0) ss) z) (done_has ss z u h)

-- an action is among them exactly where some step does it
pub acts_from : (ss : Steps) (z : Action) → has_action (actions_of ss) z ≡ true → (u : Process) × IsOneOf ss z u
acts_from ss z h = done_from ss z (once_from (map (λ s. s.0) ss) z h)

pub acts_has : (ss : Steps) (z : Action) (u : Process) → IsOneOf ss z u → has_action (actions_of ss) z ≡ true
acts_has ss z u h = once_has (map (λ s. s.0) ss) z (done_has ss z u h)

-- ---- and in order

-- no action is followed by a lesser one
abbrev NoFall : List Action → Type 0
NoFall [] = ⊤
NoFall (x ∷ []) = ⊤
NoFall (x ∷ y ∷ ys) = (action_cmp x y ≡ Greater → ⊥) × NoFall (y ∷ ys)

no_fall_then : (r o : Ordering) → is_lt (ordering_then r o) ≡ true → r ≡ Greater → ⊥
no_fall_then Less o e f = cc f
no_fall_then Equal o e f = cc f
no_fall_then Greater o e f = cc e

never_falls : (ss : Steps) → RisesBy step_cmp ss → NoFall (map (λ s. s.0) ss)
never_falls [] rise = tt
never_falls (s ∷ []) rise = tt
never_falls (s ∷ t ∷ ts) rise = (no_fall_then (action_cmp s.0 t.0) (process_cmp s.1 t.1) rise.0, never_falls (t ∷ ts) rise.1)

no_fall_past : (x y : Action) (ys : List Action) → x ≡ y → NoFall (y ∷ ys) → NoFall (x ∷ ys)
no_fall_past x y ys e h = subst (λ w. NoFall (w ∷ ys)) (sym e) h

less_left : (r : Ordering) → (r ≡ Greater → ⊥) → is_eq r ≡ false → is_lt r ≡ true
less_left Less falls e = refl
less_left Equal falls e = absurd (cc e)
less_left Greater falls e = absurd (falls refl)

abbrev Rises : Action → Action → List Action → Bool → Type 0
Rises x y ys again = IsRising (x ∷ behind_by x y ys again)

behind_rises : (x : Action) (ys : List Action) → NoFall (x ∷ ys) → IsRising (x ∷ behind_action x ys)
behind_rises x [] h = tt
behind_rises x (y ∷ ys) h = by_test (action_eq x y) refl (behind_rises x ys) (behind_rises y ys h.1)
  where
    by_test : (b : Bool) → action_eq x y ≡ b → (NoFall (x ∷ ys) → IsRising (x ∷ behind_action x ys)) → IsRising (y ∷ behind_action y ys) → Rises x y ys (action_eq x y)
    by_test true is one other = subst (Rises x y ys) (sym is) (one (no_fall_past x y ys (action_same x y is) h.1))
    by_test false is one other = subst (Rises x y ys) (sym is) (less_left (action_cmp x y) h.0 is, other)

once_rises : (xs : List Action) → NoFall xs → IsRising (actions_once xs)
once_rises [] h = tt
once_rises (x ∷ xs) h = behind_rises x xs h

-- the actions of steps that rise do so too
pub acts_rise : (ss : Steps) → RisesBy step_cmp ss → IsRising (actions_of ss)
acts_rise ss rise = once_rises (map (λ s. s.0) ss) (never_falls ss rise)
