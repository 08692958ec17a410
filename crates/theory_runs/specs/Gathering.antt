-- Lists that gather more members.
use Rattle.std.specs.Prelude.{◌↔◌, ◌⊎◌, List, Contains}

-- the members of the new list are those of the old one, and what has the property
abbrev pub Gathers : {X : Type 0} → List X → (X → Type 0) → List X → Type 0
Gathers {X} old P new = (x : X) → Contains new x ↔ (Contains old x ⊎ P x)
