-- Lists that rise by a total order.
use Rattle.std.proofs.Common.{◌≡◌, ℕ, zero, suc, List, [], ◌∷◌, refl, sym, ◌∙◌, ap, ap₂, subst, Bool, true, false, Some, slice_get, Contains, cond, ◌||◌, ⊎_elim}
use Rattle.std.specs.declared.cmp.Ordering.{Ordering}
use Rattle.std.specs.declared.cmp.Ordering.TheVariants.{Less}
use Rattle.std.specs.Ordering.{is_eq, ordering_reverse}
use Rattle.std.specs.Cmp.{IsTotalOrder}
use Rattle.std.specs.Map.{lookup, keys_of}
use Rattle.std.proofs.lemmas.Cmp.{tied_itself}
use Rattle.std.proofs.lemmas.Option.{slice_get_within, slice_get-get_or, get_or_from_slice_get}
use Rattle.std.proofs.lemmas.Bool.{or_cases, or_left, or_right}
use Rattle.theory_syntax.specs.Value.{Action, action_cmp, action_eq, has_action}
use Rattle.theory_syntax.specs.Process.{Process, Script}
use Rattle.theory_semantics.specs.Meaning.Offers.{RisesBy, IsRising, IsAllThat}
use Rattle.theory_semantics.proofs.Offering.{action_same, action_refl}
use Rattle.theory_syntax.proofs.Orders.{action_total}
use Rattle.theory_syntax.proofs.Equalities.{is_lt-Less}

-- a member, by its place
abbrev pub Stands : {X : Type 0} → List X → X → Type 0
Stands xs x = (i : ℕ) × (slice_get xs i ≡ Some x)

pub stands_from_Contains : {X : Type 0} (xs : List X) (x : X) → Contains xs x → Stands xs x
stands_from_Contains xs x (k, inside, is) = (k, slice_get-get_or xs k x inside ∙ ap Some is)

pub Contains-from_stands : {X : Type 0} (xs : List X) (x : X) → Stands xs x → Contains xs x
Contains-from_stands xs x (k, at) = (k, slice_get_within xs k x at, get_or_from_slice_get xs k x x at)

-- a list that rises rises behind its first
pub rises_behind : {X : Type 0} (R : X → X → Ordering) (x : X) (xs : List X) → RisesBy R (x ∷ xs) → RisesBy R xs
rises_behind R x [] rises = tt
rises_behind R x (y ∷ xs) rises = rises.1

module _ {X : Type 0} (R : X → X → Ordering) (total : IsTotalOrder R) where
  -- the first of a list that rises is less than the others
  pub first_least : (x : X) (xs : List X) → RisesBy R (x ∷ xs) → (i : ℕ) (y : X) → slice_get xs i ≡ Some y → R x y ≡ Less
  first_least x [] rises i y at = absurd (cc at)
  first_least x (z ∷ xs) rises zero y at = let f : Some z ≡ Some y = at in subst (λ w. R x w ≡ Less) (cc f) (is_lt-Less (R x z) rises.0)
  first_least x (z ∷ xs) rises (suc i) y at = total.trans x z y (is_lt-Less (R x z) rises.0) (first_least z xs rises.1 i y at)

  not_both : (x y : X) → R x y ≡ Less → R y x ≡ Less → ⊥
  not_both x y e f = let g = total.antisymm x y in let h = ap ordering_reverse f in cc (e, g, h)

  not_itself : (x y : X) → x ≡ y → R x y ≡ Less → ⊥
  not_itself x y e f = let g = tied_itself total x in let h : R x x ≡ Less = subst (λ w. R x w ≡ Less) (sym e) f in cc (g, h)

  same_first : (x y : X) (xs ys : List X) → RisesBy R (x ∷ xs) → RisesBy R (y ∷ ys) → Stands (y ∷ ys) x → Stands (x ∷ xs) y → x ≡ y
  same_first x y xs ys rx ry (zero, at) there = let f : Some y ≡ Some x = at in cc f
  same_first x y xs ys rx ry (suc i, at) (zero, to) = let f : Some x ≡ Some y = to in cc f
  same_first x y xs ys rx ry (suc i, at) (suc j, to) = absurd (not_both x y (first_least x xs rx j y to) (first_least y ys ry i x at))

  same_rest : (x y : X) (xs ys : List X) → RisesBy R (x ∷ xs) → x ≡ y → (z : X) → Stands xs z → Stands (y ∷ ys) z → Stands ys z
  same_rest x y xs ys rx e z (i, at) (zero, to) = let f : Some y ≡ Some z = to in absurd (not_itself x z (e ∙ cc f) (first_least x xs rx i z at))
  same_rest x y xs ys rx e z (i, at) (suc j, to) = (j, to)

  -- lists that rise and have the same members are the same
  pub rising_same : (xs ys : List X) → RisesBy R xs → RisesBy R ys → ((z : X) → Stands xs z → Stands ys z) → ((z : X) → Stands ys z → Stands xs z) → xs ≡ ys
  rising_same [] [] rx ry to back = refl
  rising_same [] (y ∷ ys) rx ry to back = absurd (let h = (back y (0, refl)).1 in cc h)
  rising_same (x ∷ xs) [] rx ry to back = absurd (let h = (to x (0, refl)).1 in cc h)
  rising_same (x ∷ xs) (y ∷ ys) rx ry to back =
      let e = same_first x y xs ys rx ry (to x (0, refl)) (back y (0, refl)) in
      ap₂ (λ w ws. w ∷ ws) e
      (rising_same xs ys (rises_behind R x xs rx) (rises_behind R y ys ry) (λ z at. same_rest x y xs ys rx e z at (to z (suc at.0, at.1)))
      (λ z at. same_rest y x ys xs ry (sym e) z at (back z (suc at.0, at.1))))

-- ---- a test for a member that compares it with each in turn

module _ {X : Type 0} (eq : X → X → Bool) (same : (x y : X) → eq x y ≡ true → x ≡ y) (has : List X → X → Bool) (none : (x : X) → has [] x ≡ true → ⊥)
    (more : (y : X) (ys : List X) (x : X) → has (y ∷ ys) x ≡ eq x y || has ys x) where
  -- what the test finds stands in the list
  pub told_stands : (xs : List X) (x : X) → has xs x ≡ true → Stands xs x
  told_stands [] x e = absurd (none x e)
  told_stands (y ∷ ys) x e = ⊎_elim (λ h. (0, ap Some (sym (same x y h)))) (λ h. let at = told_stands ys x h in (suc at.0, at.1)) (or_cases (eq x y) (has ys x) (sym (more y ys x) ∙ e))

module _ {X : Type 0} (eq : X → X → Bool) (itself : (x : X) → eq x x ≡ true) (has : List X → X → Bool) (more : (y : X) (ys : List X) (x : X) → has (y ∷ ys) x ≡ eq x y || has ys x) where
  -- the test finds what stands in the list
  pub stands_told : (xs : List X) (x : X) (i : ℕ) → slice_get xs i ≡ Some x → has xs x ≡ true
  stands_told [] x i at = absurd (cc at)
  stands_told (y ∷ ys) x zero at = let f : Some x ≡ Some y = sym at in let g : x ≡ y = cc f in more y ys x ∙ or_left (eq x y) (has ys x) (subst (λ z. eq x z ≡ true) g (itself x))
  stands_told (y ∷ ys) x (suc i) at = more y ys x ∙ or_right (eq x y) (has ys x) (stands_told ys x i at)

-- ---- sets of actions

has_stands : (xs : List Action) (x : Action) → has_action xs x ≡ true → Stands xs x
has_stands = told_stands action_eq action_same has_action (λ x e. cc e) (λ y ys x. refl)

stands_has : (xs : List Action) (x : Action) (i : ℕ) → slice_get xs i ≡ Some x → has_action xs x ≡ true
stands_has = stands_told action_eq action_refl has_action (λ y ys x. refl)

-- there is one list of all that a term can do
pub all_that_is_one : (script : Script) (t : Process) (xs ys : List Action) → IsAllThat script t xs → IsAllThat script t ys → xs ≡ ys
all_that_is_one script t xs ys all also =
    rising_same action_cmp action_total xs ys all.rising also.rising
    (λ z at. has_stands ys z ((also.each z).1 ((all.each z).0 (stands_has xs z at.0 at.1)))) (λ z at. has_stands xs z ((all.each z).1 ((also.each z).0 (stands_has ys z at.0 at.1))))

-- ---- entries by action

pub lookup_stands : {X : Type 0} (x : Action) (es : List (Action × X)) (v : X) → lookup (action_eq x) es ≡ Some v → Stands es (x, v)
lookup_stands x [] v e = absurd (cc e)
lookup_stands {X} x (p ∷ es) v e = either (action_eq x p.0) refl (lookup_stands x es v)
  where
    either : (b : Bool) → action_eq x p.0 ≡ b → (lookup (action_eq x) es ≡ Some v → Stands es (x, v)) → Stands (p ∷ es) (x, v)
    either true is behind =
        let f : Some p.1 ≡ Some v = sym (ap (λ b. cond b (Some p.1) (lookup (action_eq x) es)) is) ∙ e in
        let g : p.1 ≡ v = cc f in
        let h : p.0 ≡ x = sym (action_same x p.0 is) in
        (0, (λ i. Some (h i, g i)))
    either false is behind = let h = behind (sym (ap (λ b. cond b (Some p.1) (lookup (action_eq x) es)) is) ∙ e) in (suc h.0, h.1)

apart_action : (x y : Action) → action_cmp y x ≡ Less → action_eq x y ≡ false
apart_action x y less = ap is_eq (action_total.antisymm x y ∙ ap ordering_reverse less)

get_key : {X : Type 0} (es : List (Action × X)) (i : ℕ) (x : Action) (v : X) → slice_get es i ≡ Some (x, v) → slice_get (keys_of es) i ≡ Some x
get_key [] i x v at = absurd (cc at)
get_key {X} (p ∷ es) zero x v at = let f : Some p ≡ Some (x, v) = at in let g : p ≡ (x, v) = cc f in ap (λ q. Some q.0) g
get_key (p ∷ es) (suc i) x v at = get_key es i x v at

-- where the actions rise, each has one entry
pub lookup_rising : {X : Type 0} (x : Action) (es : List (Action × X)) (v : X) → IsRising (keys_of es) → (i : ℕ) → slice_get es i ≡ Some (x, v) → lookup (action_eq x) es ≡ Some v
lookup_rising x [] v rising i at = absurd (cc at)
lookup_rising {X} x (p ∷ es) v rising zero at =
    let f : Some p ≡ Some (x, v) = at in
    let g : p ≡ (x, v) = cc f in
    subst (λ q. cond (action_eq x q.0) (Some q.1) (lookup (action_eq x) es) ≡ Some v) (sym g) (ap (λ b. cond b (Some v) (lookup (action_eq x) es)) (action_refl x))
lookup_rising x (p ∷ es) v rising (suc i) at =
    ap (λ b. cond b (Some p.1) (lookup (action_eq x) es)) (apart_action x p.0 (first_least action_cmp action_total p.0 (keys_of es) rising i x (get_key es i x v at)))
    ∙ lookup_rising x es v (rises_behind action_cmp p.0 (keys_of es) rising) i at
