-- The things of a list one after the other.
use Rattle.std.specs.Prelude.{take, drop}
use Rattle.std.proofs.lemmas.List.{drop_more, length-map, length-take-le, map-append, take_more, take-append-drop}
use Rattle.std.proofs.Common.{◌≡◌, ◌<◌, ℕ, ◌+◌, List, [], ◌∷◌, ◌++◌, length, get_or, map, sym, ap, ◌∙◌, arith}

module _ {X Y : Type 0} (f : X → Y) (xs : List X) (i : ℕ) (x : X) (within : i < length xs) (read : x ≡ get_or xs i x) where
  -- the things so far with one more
  pub one_longer : map f (take (i + 1) xs) ≡ map f (take i xs) ++ f x ∷ []
  one_longer = ap (map f) (take_more xs i x within ∙ ap (λ y. take i xs ++ y ∷ []) (sym read)) ∙ map-append f (take i xs) (x ∷ [])

  -- those before it, and those behind it
  pub cut_there : map f xs ≡ map f (take i xs) ++ f x ∷ map f (drop (i + 1) xs)
  cut_there = ap (map f) (sym (take-append-drop i xs) ∙ ap (λ ys. take i xs ++ ys) (drop_more xs i x within ∙ ap (λ y. y ∷ drop (i + 1) xs) (sym read)))
      ∙ map-append f (take i xs) (x ∷ drop (i + 1) xs)

  pub counted_so_far : length (map f (take i xs)) ≡ i
  counted_so_far = length-map (take i xs) f ∙ length-take-le i xs (omega (arith, within))
