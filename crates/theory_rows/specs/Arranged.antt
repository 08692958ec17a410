-- Lists put in order, each member once.
use Rattle.std.specs.Prelude.{List, [], ◌∷◌}
use Rattle.std.specs.declared.cmp.Ordering.{Ordering}
use Rattle.std.specs.declared.cmp.Ordering.TheVariants.{Less, Equal, Greater}

-- x before the list, in the place of its first, or behind that
abbrev pub placed : {X : Type 0} → Ordering → X → X → List X → List X → List X
placed Less x y ys behind = x ∷ y ∷ ys
placed Equal x y ys behind = y ∷ ys
placed Greater x y ys behind = y ∷ behind

abbrev pub inserted : {X : Type 0} → (X → X → Ordering) → X → List X → List X
inserted cmp x [] = x ∷ []
inserted cmp x (y ∷ ys) = placed (cmp x y) x y ys (inserted cmp x ys)

abbrev pub arranged : {X : Type 0} → (X → X → Ordering) → List X → List X
arranged cmp [] = []
arranged cmp (x ∷ xs) = inserted cmp x (arranged cmp xs)
