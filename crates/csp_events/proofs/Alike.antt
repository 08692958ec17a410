-- Lists with the same members.
use Rattle.std.proofs.Common.{◌≡◌, zero, suc, ◌↔◌, List, [], ◌∷◌, ◌++◌, Contains, flat_map, refl, sym, subst, ⊎_elim, arith}
use Rattle.std.specs.List.Sorted.{IsPermutation}
use Rattle.std.proofs.lemmas.List.Elements.{Contains-append_cases, Contains-append_left, Contains-append_right}
use Rattle.std.proofs.lemmas.List.Sorted.{Contains-permutation, IsPermutation-sym}

module _ {X : Type 0} where
  abbrev pub AreAlike : List X → List X → Type 0
  AreAlike xs ys = (x : X) → Contains xs x ↔ Contains ys x

  alike_itself : (xs : List X) → AreAlike xs xs
  alike_itself xs x = (λ h. h, λ h. h)

  pub alike_by : (xs ys : List X) → xs ≡ ys → AreAlike xs ys
  alike_by xs ys same = subst (AreAlike xs) same (alike_itself xs)

  pub alike_then : (xs ys zs : List X) → AreAlike xs ys → AreAlike ys zs → AreAlike xs zs
  alike_then xs ys zs first second x = (λ h. (second x).0 ((first x).0 h), λ h. (first x).1 ((second x).1 h))

  -- two lists as one
  pub alike_both : (xs ys us vs : List X) → AreAlike xs ys → AreAlike us vs → AreAlike (xs ++ us) (ys ++ vs)
  alike_both xs ys us vs first second x = (
    λ h. ⊎_elim (λ k. Contains-append_left ys vs x ((first x).0 k)) (λ k. Contains-append_right ys vs x ((second x).0 k)) (Contains-append_cases xs us x h),
    λ h. ⊎_elim (λ k. Contains-append_left xs us x ((first x).1 k)) (λ k. Contains-append_right xs us x ((second x).1 k)) (Contains-append_cases ys vs x h),
  )

  -- in whatever order
  turned : (xs ys : List X) (x : X) → Contains (xs ++ ys) x → Contains (ys ++ xs) x
  turned xs ys x h = ⊎_elim (λ k. Contains-append_right ys xs x k) (λ k. Contains-append_left ys xs x k) (Contains-append_cases xs ys x h)

  pub alike_turned : (xs ys : List X) → AreAlike (xs ++ ys) (ys ++ xs)
  alike_turned xs ys x = (turned xs ys x, turned ys xs x)

-- what is made of each of a list
module _ {X Y : Type 0} (make : X → List Y) where
  made_from : (xs : List X) (y : Y) → Contains (flat_map make xs) y → (x : X) × Contains xs x × Contains (make x) y
  made_from [] y h = absurd (let k = h.1 in omega (arith, k))
  made_from (x ∷ xs) y h = ⊎_elim
      (λ k. (x, (0, omega arith, refl), k))
      (λ k. let r = made_from xs y k in let i = r.1 in (r.0, (suc i.0, omega (arith, i.1), i.2), r.2))
      (Contains-append_cases (make x) (flat_map make xs) y h)

  made_to : (xs : List X) (x : X) (y : Y) → Contains xs x → Contains (make x) y → Contains (flat_map make xs) y
  made_to [] x y (k, h, e) has = absurd (omega arith)
  made_to (z ∷ zs) x y (zero, h, e) has =
      let P : X → Type 0 = λ w. Contains (make w) y in Contains-append_left (make z) (flat_map make zs) y (subst P (sym e) has)
  made_to (z ∷ zs) x y (suc k, h, e) has = Contains-append_right (make z) (flat_map make zs) y (made_to zs x y (k, omega arith, e) has)

  moved_way : (xs ys : List X) → IsPermutation xs ys → (y : Y) → Contains (flat_map make xs) y → Contains (flat_map make ys) y
  moved_way xs ys moved y h = let r = made_from xs y h in made_to ys r.0 y (Contains-permutation xs ys r.0 moved r.1) r.2

  -- of a list that is moved about the same is made
  pub alike_moved : (xs ys : List X) → IsPermutation xs ys → AreAlike (flat_map make xs) (flat_map make ys)
  alike_moved xs ys moved y = (moved_way xs ys moved y, moved_way ys xs (IsPermutation-sym xs ys moved) y)
