-- Names that are taken out of those of the code.
use Rattle.std.proofs.Common.{◌≡◌, Bool, true, false, List, [], ◌∷◌, filter, map, refl, ap}

-- what stands for the items that are kept is what is kept of what stands for them
pub map_filter : {X Y : Type 0} (test : X → Bool) (meaning : Y → X) (ys : List Y) → map meaning (filter (λ y. test (meaning y)) ys) ≡ filter test (map meaning ys)
map_filter test meaning [] = refl
map_filter test meaning (y ∷ ys) = by (test (meaning y)) refl (map_filter test meaning ys)
  where
    by : (b : Bool) → test (meaning y) ≡ b → map meaning (filter (λ z. test (meaning z)) ys) ≡ filter test (map meaning ys) → map meaning (filter (λ z. test (meaning z)) (y ∷ ys)) ≡ filter test (meaning y ∷ map meaning ys)
    by true e rest = rw e (ap (λ xs. meaning y ∷ xs) rest)
    by false e rest = rw e rest
