-- A list that is looked through for an item.
use Rattle.std.proofs.Common.{◌≡◌, ℕ, ◌+◌, ◌<◌, ◌≤◌, ⊎_elim, List, [], ◌∷◌, length, take, map, get_or, Some, Contains, sym, ◌∙◌, ap, subst}
use Rattle.std.proofs.lemmas.List.{map-append, take_all, take_more}
use Rattle.std.proofs.lemmas.List.Elements.{Contains-append_cases}
use Rattle.std.proofs.lemmas.Option.{slice_get-get_or}
use Rattle.theory_syntax.proofs.Members.{contains_none, contains_one}
use Rattle.theory_syntax.proofs.Places.{get_some}
use Rattle.theory_semantics.proofs.Rising.{Contains-from_stands}

module _ {X Y : Type 0} (f : X → Y) (y : Y) (xs : List X) where
  pub none_before : ¬ Contains (map f (take 0 xs)) y
  none_before = contains_none y

  pub none_so_far : (i : ℕ) (x : X) → i < length xs → x ≡ get_or xs i x → ¬ (f x ≡ y) → ¬ Contains (map f (take i xs)) y → ¬ Contains (map f (take (i + 1) xs)) y
  none_so_far i x in_range is other none has =
      let P : List X → Type 0 = λ zs. Contains (map f zs) y in
      let Q : List Y → Type 0 = λ zs. Contains zs y in
      let R : X → Type 0 = λ z. f z ≡ y in
      let both = subst Q (map-append f (take i xs) (get_or xs i x ∷ [])) (subst P (take_more xs i x in_range) has) in
      ⊎_elim none (λ last. other (subst R (sym is) (contains_one (f (get_or xs i x)) y last))) (Contains-append_cases (map f (take i xs)) (f (get_or xs i x) ∷ []) y both)

  pub none_at_all : (i : ℕ) → length xs ≤ i → ¬ Contains (map f (take i xs)) y → ¬ Contains (map f xs) y
  none_at_all i past none has = let P : List X → Type 0 = λ zs. Contains (map f zs) y in none (subst P (sym (take_all i xs past)) has)

  pub one_there : (i : ℕ) (x : X) → i < length xs → x ≡ get_or xs i x → f x ≡ y → Contains (map f xs) y
  one_there i x in_range is same =
      let P : Y → Type 0 = λ z. Contains (map f xs) z in
      subst P same (Contains-from_stands (map f xs) (f x) (i, get_some f xs i x (slice_get-get_or xs i x in_range ∙ ap Some (sym is))))
