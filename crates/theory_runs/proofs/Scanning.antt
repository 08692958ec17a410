-- A list that is looked through item by item.
use Rattle.std.proofs.Common.{◌≡◌, ℕ, ◌+◌, ◌<◌, ◌≤◌, ⊎_elim, List, length, slice_get, Some, Contains, sym, ◌∙◌, ap, subst, arith}
use Rattle.std.proofs.lemmas.Option.{slice_get_within}
use Rattle.theory_semantics.proofs.Rising.{stands_from_Contains}
use Rattle.theory_search.proofs.Constructing.{below_or_not}

-- each of the first n items has the property
abbrev pub EachBefore : {X : Type 0} → (X → Type 0) → List X → ℕ → Type 0
EachBefore {X} P xs n = (k : ℕ) (y : X) → k < n → slice_get xs k ≡ Some y → P y

pub each_zero : {X : Type 0} (P : X → Type 0) (xs : List X) → EachBefore P xs 0
each_zero P xs k y low at = absurd (omega (arith, low))

pub each_more : {X : Type 0} (P : X → Type 0) (xs : List X) (n : ℕ) (x : X) → slice_get xs n ≡ Some x → P x → EachBefore P xs n → EachBefore P xs (n + 1)
each_more {X} P xs n x here has each k y low at = ⊎_elim (λ h. each k y h at) (λ h. last (omega (arith, low, h))) (below_or_not k n)
  where
    last : k ≡ n → P y
    last e = let f : Some x ≡ Some y = sym here ∙ ap (slice_get xs) (sym e) ∙ at in subst P (cc f) has

pub each_at_all : {X : Type 0} (P : X → Type 0) (xs : List X) (n : ℕ) → length xs ≤ n → EachBefore P xs n → (y : X) → Contains xs y → P y
each_at_all P xs n past each y c =
    let at = stands_from_Contains xs y c in
    let inside = slice_get_within xs at.0 y at.1 in each at.0 y (omega (arith, inside, past)) at.1

-- none of the first n items has the property
abbrev pub NoneBefore : {X : Type 0} → (X → Type 0) → List X → ℕ → Type 0
NoneBefore {X} P xs n = (k : ℕ) (y : X) → k < n → slice_get xs k ≡ Some y → ¬ P y

pub none_zero : {X : Type 0} (P : X → Type 0) (xs : List X) → NoneBefore P xs 0
none_zero P xs = each_zero (λ y. ¬ P y) xs

pub none_more : {X : Type 0} (P : X → Type 0) (xs : List X) (n : ℕ) (x : X) → slice_get xs n ≡ Some x → ¬ P x → NoneBefore P xs n → NoneBefore P xs (n + 1)
none_more P xs n x = each_more (λ y. ¬ P y) xs n x

pub none_at_all : {X : Type 0} (P : X → Type 0) (xs : List X) (n : ℕ) → length xs ≤ n → NoneBefore P xs n → (y : X) → Contains xs y → ¬ P y
none_at_all P xs n = each_at_all (λ y. ¬ P y) xs n
