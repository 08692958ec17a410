-- A list that gathers what belongs to the items of another, one item after the other.
use Rattle.std.proofs.Common.{◌≡◌, ◌↔◌, ◌⊎◌, inl, inr, ⊎_elim, ℕ, ◌+◌, ◌<◌, ◌≤◌, List, [], ◌∷◌, ◌++◌, length, slice_get, Some, Contains, sym, ◌∙◌, ap, subst, arith}
use Rattle.std.proofs.lemmas.Option.{slice_get_within}
use Rattle.std.proofs.lemmas.List.Elements.{Contains-append_left, Contains-append_right, Contains-append_cases}
use Rattle.theory_semantics.proofs.Rising.{stands_from_Contains, Contains-from_stands}
use Rattle.theory_search.proofs.Constructing.{below_or_not}
use Rattle.theory_search.proofs.Growing.{contains_end, contains_front, contains_cases}
use Rattle.theory_runs.specs.Gathering.{Gathers}

-- ---- one list and more

pub gathers_one : {X : Type 0} (old new : List X) (x : X) → new ≡ old ++ x ∷ [] → Gathers old (λ y. y ≡ x) new
gathers_one {X} old new x is y = (
  λ c. contains_cases old x y (subst (λ xs. Contains xs y) is c),
  λ h. subst (λ xs. Contains xs y) (sym is) (⊎_elim (λ c. contains_front old x y c) (λ e. subst (Contains (old ++ x ∷ [])) (sym e) (contains_end old x)) h),
)

pub gathers_list : {X : Type 0} (old more new : List X) → new ≡ old ++ more → Gathers old (Contains more) new
gathers_list {X} old more new is y = (
  λ c. Contains-append_cases old more y (subst (λ xs. Contains xs y) is c),
  λ h. subst (λ xs. Contains xs y) (sym is) (⊎_elim (λ c. Contains-append_left old more y c) (λ c. Contains-append_right old more y c) h),
)

pub gathers_same : {X : Type 0} (P Q : X → Type 0) (old new : List X) → ((x : X) → P x ↔ Q x) → Gathers old P new → Gathers old Q new
gathers_same P Q old new same g x = (λ c. ⊎_elim (λ h. inl h) (λ h. inr ((same x).0 h)) ((g x).0 c), λ h. (g x).1 (⊎_elim (λ c. inl c) (λ q. inr ((same x).1 q)) h))

-- from nothing
pub gathers_alone : {X : Type 0} (P : X → Type 0) (new : List X) → Gathers [] P new → (x : X) → Contains new x ↔ P x
gathers_alone P new g x = (λ c. ⊎_elim (λ h. absurd (cc (stands_from_Contains [] x h).1)) (λ h. h) ((g x).0 c), λ h. (g x).1 (inr h))

-- ---- what belongs to the first items

-- it belongs to one of the first n items
abbrev pub IsOfFirst : {U X : Type 0} → (U → X → Type 0) → List U → ℕ → X → Type 0
IsOfFirst {U} R items n x = (i : ℕ) × (u : U) × (i < n) × (slice_get items i ≡ Some u) × R u x

module _ {U X : Type 0} (R : U → X → Type 0) (items : List U) (old : List X) where
  pub gather_none : Gathers old (IsOfFirst R items 0) old
  gather_none x = (λ c. inl c, λ h. ⊎_elim (λ c. c) (λ f. absurd (let low = f.2 in omega (arith, low))) h)

  earlier : (n : ℕ) (x : X) → IsOfFirst R items n x → IsOfFirst R items (n + 1) x
  earlier n x f = let low = f.2 in (f.0, f.1, omega (arith, low), f.3, f.4)

  last : (n : ℕ) (u : U) (x : X) → slice_get items n ≡ Some u → IsOfFirst R items (n + 1) x → IsOfFirst R items n x ⊎ R u x
  last n u x at f = let low = f.2 in ⊎_elim (λ h. inl (f.0, f.1, h, f.3, f.4)) (λ h. inr (here (omega (arith, low, h)))) (below_or_not f.0 n)
    where
      here : f.0 ≡ n → R u x
      here e = let g : Some f.1 ≡ Some u = sym f.3 ∙ ap (slice_get items) e ∙ at in subst (λ w. R w x) (cc g) f.4

  pub gather_more : (n : ℕ) (now more : List X) (u : U) → Gathers old (IsOfFirst R items n) now → slice_get items n ≡ Some u → Gathers now (R u) more → Gathers old (IsOfFirst R items (n + 1)) more
  gather_more n now more u g at next x = (
    λ c. ⊎_elim (λ h. ⊎_elim (λ k. inl k) (λ k. inr (earlier n x k)) ((g x).0 h)) (λ h. inr (n, u, omega arith, at, h)) ((next x).0 c),
    λ h. (next x).1 (⊎_elim (λ c. inl ((g x).1 (inl c))) (λ f. ⊎_elim (λ k. inl ((g x).1 (inr k))) (λ k. inr k) (last n u x at f)) h),
  )

  -- an item that nothing belongs to
  pub gather_skip : (n : ℕ) (now : List X) (u : U) → Gathers old (IsOfFirst R items n) now → slice_get items n ≡ Some u → ((x : X) → ¬ R u x) → Gathers old (IsOfFirst R items (n + 1)) now
  gather_skip n now u g at none = gather_more n now now u g at (λ x. (λ c. inl c, λ h. ⊎_elim (λ c. c) (λ r. absurd (none x r)) h))

  -- all items
  pub gather_all : (n : ℕ) (now : List X) → Gathers old (IsOfFirst R items n) now → length items ≤ n → Gathers old (λ x. (u : U) × Contains items u × R u x) now
  gather_all n now g past = gathers_same (IsOfFirst R items n) (λ x. (u : U) × Contains items u × R u x) old now same g
    where
      same : (x : X) → IsOfFirst R items n x ↔ ((u : U) × Contains items u × R u x)
      same x = (
        λ f. (f.1, Contains-from_stands items f.1 (f.0, f.3), f.4),
        λ h. let at = stands_from_Contains items h.0 h.1 in let low = slice_get_within items at.0 h.0 at.1 in (at.0, h.0, omega (arith, low, past), at.1, h.2),
      )
