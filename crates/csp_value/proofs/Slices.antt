-- Two lists are in the order of what their items stand for.
use Rattle.std.proofs.Common.{◌≡◌, List, [], ◌∷◌, map, refl, ap₂}
use Rattle.std.specs.declared.cmp.Ordering.{Ordering}
use Rattle.std.specs.Ordering.{ordering_then}
use Rattle.std.specs.Cmp.Lexicographic.{slice_cmp}

pub slices_ordered : {X Y : Type 0} (cmp : X → X → Ordering) (order : Y → Y → Ordering) (meaning : X → Y) → ((x y : X) → cmp x y ≡ order (meaning x) (meaning y)) → (xs ys : List X) → slice_cmp cmp xs ys ≡ slice_cmp order (map meaning xs) (map meaning ys)
slices_ordered cmp order meaning each [] [] = refl
slices_ordered cmp order meaning each [] (y ∷ ys) = refl
slices_ordered cmp order meaning each (x ∷ xs) [] = refl
slices_ordered cmp order meaning each (x ∷ xs) (y ∷ ys) = ap₂ ordering_then (each x y) (slices_ordered cmp order meaning each xs ys)
