-- Lists of copies, an item at a time.
use Rattle.std.proofs.Common.{◌≡◌, ℕ, ◌+◌, ◌<◌, List, [], ◌∷◌, ◌++◌, length, take, map, get_or, refl, ap, ap₂}
use Rattle.std.proofs.lemmas.List.{take_more, map-append}
use Rattle.csp_value.specs.Copies.{AreCopies}

module _ {X : Type 0} (same : X → X → Type 0) where
  pub one_more : (xs ys : List X) (x y : X) → AreCopies same xs ys → same x y → AreCopies same (xs ++ x ∷ []) (ys ++ y ∷ [])
  one_more [] [] x y copies here = (here, tt)
  one_more [] (z ∷ zs) x y copies here = absurd copies
  one_more (z ∷ zs) [] x y copies here = absurd copies
  one_more (v ∷ xs) (w ∷ ys) x y copies here = (copies.0, one_more xs ys x y copies.1 here)

  -- copies of the first i items, and of the next one
  pub next_copied : (items all more : List X) (i : ℕ) (x y : X) → AreCopies same (take i items) all → i < length items → x ≡ get_or items i x → same x y → more ≡ all ++ y ∷ [] →
      AreCopies same (take (i + 1) items) more
  next_copied items all more i x y copies within read here pushed = rw (pushed, take_more items i x within, ← read) (one_more (take i items) all x y copies here)

-- copies that stand for the same, item by item, stand for the same list
pub copies_same : {X Y : Type 0} (meaning : X → Y) (xs ys : List X) → AreCopies (λ x y. meaning y ≡ meaning x) xs ys → map meaning ys ≡ map meaning xs
copies_same meaning [] [] copies = refl
copies_same meaning [] (y ∷ ys) copies = absurd copies
copies_same meaning (x ∷ xs) [] copies = absurd copies
copies_same meaning (x ∷ xs) (y ∷ ys) copies = ap₂ (λ z zs. z ∷ zs) copies.0 (copies_same meaning xs ys copies.1)

-- and so does what is read of them
pub copies_read : {X Y Z : Type 0} (meaning : X → Y) (read : Y → Z) (xs ys : List X) → AreCopies (λ x y. meaning y ≡ meaning x) xs ys → map (λ y. read (meaning y)) ys ≡ map (λ x. read (meaning x)) xs
copies_read meaning read [] [] copies = refl
copies_read meaning read [] (y ∷ ys) copies = absurd copies
copies_read meaning read (x ∷ xs) [] copies = absurd copies
copies_read meaning read (x ∷ xs) (y ∷ ys) copies = ap₂ (λ z zs. z ∷ zs) (ap read copies.0) (copies_read meaning read xs ys copies.1)

-- One more item of a loop that pushes: what was pushed stands for what f makes of the item that was read.
pub map_push : {X Y Z : Type 0} (meaning : X → Z) (f : Y → Z) (made more : List X) (x : X) (items : List Y) (i : ℕ) (y : Y) →
    map meaning made ≡ map f (take i items) → i < length items → y ≡ get_or items i y → meaning x ≡ f y → more ≡ made ++ x ∷ [] → map meaning more ≡ map f (take (i + 1) items)
map_push meaning f made more x items i y same within read one pushed = rw (pushed, map-append, same, one, take_more items i y within, map-append, ← read) refl
