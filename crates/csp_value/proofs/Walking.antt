-- Loops over a list that add up the sizes of its items, or look for one that is too deep.
use Rattle.std.proofs.Common.{◌≡◌, ℕ, zero, suc, ◌+◌, ◌-◌, ◌<◌, ◌≤◌, max, refl, Option, Some, None, SomeIff, List, [], ◌∷◌, length, drop, get_or, sym, ◌∙◌, ap, subst, Bool, true, false, IsTrue, ◌↔◌, arith}
use Rattle.std.proofs.lemmas.List.{drop_all}
use Rattle.std.proofs.lemmas.List.Recursion.{max_bounds}
use Rattle.std.proofs.Math.Nat.{max-le}
use Rattle.theory_syntax.proofs.Places.{cut}

-- what is left of the items and the room say the same as all of them
abbrev pub Left : {X : Type 0} → (List X → ℕ) → List X → ℕ → ℕ → ℕ → Type 0
Left F xs room i rest = F (drop i xs) + room ≡ F xs + rest

-- what is left of the items decides
abbrev pub Decides : {X : Type 0} → (List X → ℕ) → List X → ℕ → ℕ → Type 0
Decides F xs most i = F (drop i xs) ≤ most → F xs ≤ most

-- what a test has told
pub told_beyond : (r : Bool) (P : Type 0) → IsTrue r ↔ P → r ≡ false → ¬ P
told_beyond r P told fails p = absurd (cc (sym fails ∙ told.1 p))

pub told_within : (r : Bool) (P : Type 0) → IsTrue r ↔ P → r ≡ true → P
told_within r P told holds = told.0 holds

-- what holds the items is one node above them, in size and in depth
pub one_above : (r : Option ℕ) (room rest items all : ℕ) → 1 ≤ room → rest ≡ room - 1 → all ≡ 1 + items → SomeIff r (items ≤ rest) (rest - items) → SomeIff r (all ≤ room) (room - all)
one_above None room rest items all some is one more = λ fits. more (omega arith)
one_above (Some left) room rest items all some is one told =
    let fits : items ≤ rest = told.0 in
    let same : left ≡ rest - items = told.1 in
    (omega arith, omega arith)

at_least_one : (n : ℕ) → ¬ (n ≡ 0) → 1 ≤ n
at_least_one zero some = absurd (some refl)
at_least_one (suc n) some = omega arith

pub one_deeper : (P : Type 0) (most items all : ℕ) → ¬ (most ≡ 0) → all ≡ 1 + items → P ↔ (items ≤ most - 1) → P ↔ (all ≤ most)
one_deeper P most items all some one told =
    let least : 1 ≤ most = at_least_one most some in
    (λ p. let fits : items ≤ most - 1 = told.0 p in omega arith, λ fits. told.1 (omega arith))

-- F is the sum over the items
module _ {X : Type 0} (F : List X → ℕ) (f : X → ℕ) (none : F [] ≡ 0) (step : (x : X) (xs : List X) → F (x ∷ xs) ≡ f x + F xs) (xs : List X) (room : ℕ) where
  opened : (i : ℕ) (x : X) → i < length xs → x ≡ get_or xs i x → F (drop i xs) ≡ f x + F (drop (i + 1) xs)
  opened i x within read = ap F (sym (cut xs i x within read)) ∙ step x (drop (i + 1) xs)

  pub one_less : (i rest less : ℕ) (x : X) → i < length xs → x ≡ get_or xs i x → Left F xs room i rest → f x ≤ rest → less ≡ rest - f x → Left F xs room (i + 1) less
  one_less i rest less x within read left fits is =
      let e : F (drop i xs) ≡ f x + F (drop (i + 1) xs) = opened i x within read in
      omega arith

  pub one_too_many : (i rest : ℕ) (x : X) → i < length xs → x ≡ get_or xs i x → Left F xs room i rest → ¬ (f x ≤ rest) → ¬ (F xs ≤ room)
  one_too_many i rest x within read left more all =
      let e : F (drop i xs) ≡ f x + F (drop (i + 1) xs) = opened i x within read in
      more (omega arith)

  pub none_left : (i rest : ℕ) → length xs ≤ i → Left F xs room i rest → (F xs ≤ room) × (rest ≡ room - F xs)
  none_left i rest past left =
      let e : F (drop i xs) ≡ 0 = ap F (drop_all i xs past) ∙ none in
      (omega arith, omega arith)

-- F is the greatest of the items
module _ {X : Type 0} (F : List X → ℕ) (f : X → ℕ) (none : F [] ≡ 0) (step : (x : X) (xs : List X) → F (x ∷ xs) ≡ max (f x) (F xs)) (xs : List X) (most : ℕ) where
  pub one_more : (i : ℕ) (x : X) → i < length xs → x ≡ get_or xs i x → f x ≤ most → Decides F xs most i → Decides F xs most (i + 1)
  one_more i x within read here decides rest =
      let e : F (drop i xs) ≡ max (f x) (F (drop (i + 1) xs)) = ap F (sym (cut xs i x within read)) ∙ step x (drop (i + 1) xs) in
      let P : ℕ → Type 0 = λ n. n ≤ most in
      decides (subst P (sym e) (max-le here rest))

  pub one_beyond : (i : ℕ) (x : X) → i < length xs → x ≡ get_or xs i x → ¬ (f x ≤ most) → ¬ (F xs ≤ most)
  one_beyond i x within read beyond all =
      let P : X → Type 0 = λ y. f y ≤ F xs in
      let bound : f x ≤ F xs = subst P (sym read) (max_bounds F f none step xs i x within) in
      beyond (omega arith)

  pub none_beyond : (i : ℕ) → length xs ≤ i → Decides F xs most i → F xs ≤ most
  none_beyond i past decides =
      let e : F (drop i xs) ≡ 0 = ap F (drop_all i xs past) ∙ none in
      decides (omega arith)
