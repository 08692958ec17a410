-- The order that is derived for an enum, where what its variants stand for is in the order of places.
use Rattle.std.proofs.Common.{◌≡◌, ℕ, suc, ◌<◌, ◌≤◌, ◌⊎◌, sym, ◌∙◌, arith, inl, inr}
use Rattle.std.proofs.Math.Logic.{⊎_elim}
use Rattle.std.specs.declared.cmp.Ordering.{Ordering}
use Rattle.std.specs.declared.cmp.Ordering.TheVariants.{Less, Greater}
use Rattle.std.specs.Ordering.{nat_cmp}
use Rattle.std.specs.Cmp.{nat_cmp_is}

-- an order that goes by places where those differ
pub record Places (P : Type 0) : Type 0 where
  pub cmp : P → P → Ordering
  pub place : P → ℕ
  pub apart : (p q : P) → ¬ (place p ≡ place q) → cmp p q ≡ nat_cmp (place p) (place q)

-- two of a first variant, or of those behind it
abbrev pub first_or : {X Y : Type 0} → (X → X → Ordering) → (Y → Y → Ordering) → X ⊎ Y → X ⊎ Y → Ordering
first_or f g v w = ⊎_elim (λ x. ⊎_elim (λ y. f x y) (λ y. Less) w) (λ x. ⊎_elim (λ y. Greater) (λ y. g x y) w) v

abbrev pub no_more : ⊥ → ⊥ → Ordering
no_more v w = absurd v

abbrev pub either : {X Y P : Type 0} → (X → P) → (Y → P) → X ⊎ Y → P
either m n (inl x) = m x
either m n (inr y) = n y

abbrev pub either_holds : {X Y : Type 0} → (X → Type 0) → (Y → Type 0) → X ⊎ Y → Type 0
either_holds H K (inl x) = H x
either_holds H K (inr y) = K y

-- variants that stand at the places from one on, in the order of what they stand for where that is so of their parts
pub record Ranks {P X : Type 0} (places : Places P) (f : X → X → Ordering) (m : X → P) (H : X → Type 0) (least : ℕ) : Type 0 where
  pub from : (x : X) → least ≤ places.place (m x)
  pub ordered : (x y : X) → H x → f x y ≡ places.cmp (m x) (m y)

module _ {P : Type 0} (places : Places P) where
  pub less : (p q : P) → places.place p < places.place q → Less ≡ places.cmp p q
  less p q before = sym (places.apart p q (λ e. let same : places.place p ≡ places.place q = e in omega arith) ∙ sym (nat_cmp_is (places.place p) (places.place q) Less before))

  pub greater : (p q : P) → places.place q < places.place p → Greater ≡ places.cmp p q
  greater p q behind = sym (places.apart p q (λ e. let same : places.place p ≡ places.place q = e in omega arith) ∙ sym (nat_cmp_is (places.place p) (places.place q) Greater behind))

  pub none : (least : ℕ) → Ranks places no_more (λ v. absurd v) (λ v. ⊥) least
  none least = record { from = λ v. absurd v; ordered = λ v w h. absurd v }

  -- one more variant in front
  module _ {X Y : Type 0} (f : X → X → Ordering) (m : X → P) (H : X → Type 0) {g : Y → Y → Ordering} {n : Y → P} {K : Y → Type 0} (lo hi : ℕ)
      (low : (x : X) → lo ≤ places.place (m x)) (high : (x : X) → places.place (m x) < hi) (within : lo ≤ hi) (same : (x y : X) → H x → f x y ≡ places.cmp (m x) (m y)) (rest : Ranks places g n K hi) where
    from_either : (v : X ⊎ Y) → lo ≤ places.place (either m n v)
    from_either (inl x) = low x
    from_either (inr y) = let behind : hi ≤ places.place (n y) = rest.from y in omega arith

    ordered_either : (v w : X ⊎ Y) → either_holds H K v → first_or f g v w ≡ places.cmp (either m n v) (either m n w)
    ordered_either (inl x) (inl y) h = same x y h
    ordered_either (inl x) (inr y) h = less (m x) (n y) (let before : places.place (m x) < hi = high x in let behind : hi ≤ places.place (n y) = rest.from y in omega arith)
    ordered_either (inr x) (inl y) h = greater (n x) (m y) (let before : places.place (m y) < hi = high y in let behind : hi ≤ places.place (n x) = rest.from x in omega arith)
    ordered_either (inr x) (inr y) h = rest.ordered x y h

    pub one_more : Ranks places (first_or f g) (either m n) (either_holds H K) lo
    one_more = record { from = from_either; ordered = ordered_either }

  -- the same for one that stands at one place
  pub one_at : {X Y : Type 0} (f : X → X → Ordering) (m : X → P) (H : X → Type 0) {g : Y → Y → Ordering} {n : Y → P} {K : Y → Type 0} (at : ℕ) → ((x : X) → places.place (m x) ≡ at) → ((x y : X) → H x → f x y ≡ places.cmp (m x) (m y)) → Ranks places g n K (suc at) →
      Ranks places (first_or f g) (either m n) (either_holds H K) at
  one_at f m H at is same rest =
      one_more f m H at (suc at) (λ x. let e : places.place (m x) ≡ at = is x in omega arith) (λ x. let e : places.place (m x) ≡ at = is x in omega arith) (omega arith) same rest
