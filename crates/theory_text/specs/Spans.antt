-- The bytes that the tokens of a text stand at.
use Rattle.std.specs.Prelude.{ℕ, ◌<◌, ◌≤◌, List, [], ◌∷◌, ⊤}
use Rattle.theory_text.specs.Token.{PlacedToken, IsInRange}

-- Each token has a byte at least, and begins where the one before it ends or later, all between these two.
abbrev pub RiseBetween : ℕ → ℕ → List PlacedToken → Type 0
RiseBetween from to [] = from ≤ to
RiseBetween from to (t ∷ ts) = (from ≤ t.from) × (t.from < t.to) × RiseBetween t.to to ts

-- no token is too large a number
abbrev pub AreInRange : List PlacedToken → Type 0
AreInRange [] = ⊤
AreInRange (t ∷ ts) = IsInRange t.token × AreInRange ts
