-- Parts that take the places of others.
use Rattle.std.specs.Prelude.{ℕ, suc, ◌≤◌, List, [], ◌∷◌, set}
use Rattle.theory_syntax.specs.Process.{Process}

-- A part that takes the place of the one in a hole.
pub record Change : Type 0 where
  pub hole : ℕ
  pub part : Process

-- the parts after the changes
abbrev pub changed : List Change → List Process → List Process
changed [] parts = parts
changed (c ∷ cs) parts = changed cs (set parts c.hole c.part)

-- The changes go from left to right, each to a hole of its own, from this number on and before that one.
abbrev pub RiseWithin : ℕ → ℕ → List Change → Type 0
RiseWithin n m [] = n ≤ m
RiseWithin n m (c ∷ cs) = (n ≤ c.hole) × RiseWithin (suc c.hole) m cs
