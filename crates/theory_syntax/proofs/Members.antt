-- Members of a list that is written out.
use Rattle.std.proofs.Common.{◌≡◌, zero, suc, List, [], ◌∷◌, refl, inl, inr, ◌⊎◌, arith, Contains}

pub contains_none : {X : Type 0} (x : X) → Contains [] x → ⊥
contains_none x (k, h, e) = omega arith

pub contains_cases : {X : Type 0} (a : X) (xs : List X) (x : X) → Contains (a ∷ xs) x → (a ≡ x) ⊎ Contains xs x
contains_cases a xs x (zero, h, e) = inl e
contains_cases a xs x (suc k, h, e) = inr (k, omega arith, e)

pub contains_here : {X : Type 0} (a : X) (xs : List X) → Contains (a ∷ xs) a
contains_here a xs = (0, omega arith, refl)

pub contains_there : {X : Type 0} (a : X) (xs : List X) (x : X) → Contains xs x → Contains (a ∷ xs) x
contains_there a xs x has = (suc has.0, let h = has.1 in omega arith, has.2)

-- the only member of a list of one
pub contains_one : {X : Type 0} (x y : X) → Contains (x ∷ []) y → x ≡ y
contains_one x y (zero, h, e) = e
contains_one x y (suc k, h, e) = absurd (omega arith)
