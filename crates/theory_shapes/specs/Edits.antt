-- Bytes in which others take the places of some.
use Rattle.std.specs.Prelude.{ℕ, ◌-◌, List, [], ◌∷◌, ◌++◌, drop, take}

-- These bytes take the place of those from the start on and before the end.
pub record Edit : Type 0 where
  pub start : ℕ
  pub end : ℕ
  pub bytes : List ℕ

-- the bytes from a place on, after edits that go from left to right
abbrev pub edited : List ℕ → ℕ → List Edit → List ℕ
edited bytes place [] = drop place bytes
edited bytes place (e ∷ es) = take (e.start - place) (drop place bytes) ++ (e.bytes ++ edited bytes e.end es)
