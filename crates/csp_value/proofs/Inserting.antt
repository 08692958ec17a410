-- A value that is put into a list before the first one above it.
use Rattle.std.proofs.Common.{◌≡◌, ℕ, ◌+◌, ◌<◌, List, [], ◌∷◌, ◌++◌, length, map, take, drop, get_or, refl, sym, ◌∙◌, ap, subst}
use Rattle.std.proofs.lemmas.List.{take_more, take-append-drop, map-append}
use Rattle.std.specs.List.{insert}
use Rattle.std.specs.declared.cmp.Ordering.TheVariants.{Less, Equal, Greater}
use Rattle.theory_syntax.specs.Value.{Value, value_cmp, insert_value}
use Rattle.theory_syntax.proofs.Places.{cut}

module _ {X : Type 0} (meaning : X → Value) where
  at_less : (x y : X) (ys : List X) → value_cmp (meaning x) (meaning y) ≡ Less → insert_value (meaning x) (map meaning (y ∷ ys)) ≡ meaning x ∷ map meaning (y ∷ ys)
  at_less x y ys less = rw less refl

  at_equal : (x y : X) (ys : List X) → value_cmp (meaning x) (meaning y) ≡ Equal → insert_value (meaning x) (map meaning (y ∷ ys)) ≡ map meaning (y ∷ ys)
  at_equal x y ys equal = rw equal refl

  at_greater : (x y : X) (ys : List X) → value_cmp (meaning x) (meaning y) ≡ Greater → insert_value (meaning x) (map meaning (y ∷ ys)) ≡ meaning y ∷ insert_value (meaning x) (map meaning ys)
  at_greater x y ys greater = rw greater refl

  -- what is still to be looked at decides
  abbrev pub Rests : X → List X → ℕ → Type 0
  Rests x xs i = insert_value (meaning x) (map meaning xs) ≡ map meaning (take i xs) ++ insert_value (meaning x) (map meaning (drop i xs))

  -- the first one above it is at i
  pub put_before : (x : X) (xs : List X) (i : ℕ) (y : X) → Rests x xs i → i < length xs → y ≡ get_or xs i y → value_cmp (meaning x) (meaning y) ≡ Less → map meaning (insert xs i x) ≡ insert_value (meaning x) (map meaning xs)
  put_before x xs i y rests within read less =
      let P : List X → Type 0 = λ zs. insert_value (meaning x) (map meaning zs) ≡ meaning x ∷ map meaning zs in
      let here = subst P (cut xs i y within read) (at_less x y (drop (i + 1) xs) less) in
      map-append meaning (take i xs) (x ∷ drop i xs) ∙ ap (λ zs. map meaning (take i xs) ++ zs) (sym here) ∙ sym rests

  -- an equal one is at i
  pub put_already : (x : X) (xs : List X) (i : ℕ) (y : X) → Rests x xs i → i < length xs → y ≡ get_or xs i y → value_cmp (meaning x) (meaning y) ≡ Equal → map meaning xs ≡ insert_value (meaning x) (map meaning xs)
  put_already x xs i y rests within read equal =
      let P : List X → Type 0 = λ zs. insert_value (meaning x) (map meaning zs) ≡ map meaning zs in
      let here = subst P (cut xs i y within read) (at_equal x y (drop (i + 1) xs) equal) in
      ap (map meaning) (sym (take-append-drop i xs)) ∙ map-append meaning (take i xs) (drop i xs) ∙ ap (λ zs. map meaning (take i xs) ++ zs) (sym here) ∙ sym rests

  after : (vs : List Value) (w : Value) (ws : List Value) → vs ++ w ∷ ws ≡ (vs ++ w ∷ []) ++ ws
  after [] w ws = refl
  after (v ∷ vs) w ws = ap (λ us. v ∷ us) (after vs w ws)

  -- the one at i is below it
  pub put_later : (x : X) (xs : List X) (i : ℕ) (y : X) → Rests x xs i → i < length xs → y ≡ get_or xs i y → value_cmp (meaning x) (meaning y) ≡ Greater → Rests x xs (i + 1)
  put_later x xs i y rests within read greater =
      let v = meaning x in
      let rest = insert_value v (map meaning (drop (i + 1) xs)) in
      let P : List X → Type 0 = λ zs. insert_value v (map meaning zs) ≡ meaning y ∷ rest in
      let here = subst P (cut xs i y within read) (at_greater x y (drop (i + 1) xs) greater) in
      let longer = ap (map meaning) (take_more xs i y within ∙ ap (λ z. take i xs ++ z ∷ []) (sym read)) ∙ map-append meaning (take i xs) (y ∷ []) in
      rests ∙ ap (λ zs. map meaning (take i xs) ++ zs) here ∙ after (map meaning (take i xs)) (meaning y) rest ∙ ap (λ zs. zs ++ rest) (sym longer)
