-- Steps that stand on one another.
use Rattle.std.specs.Prelude.{◌≡◌, ◌≤◌, ℕ, ◌-◌, List, ◌++◌, drop, take}
use Rattle.csp_rows.specs.declared.stack.Places.{Places}

abbrev pub ArePlacesIn : ℕ → Places → Type 0
ArePlacesIn n p = (p.from ≤ p.to) × (p.to ≤ n)

-- what stands between the places
abbrev pub between : {X : Type 0} → Places → List X → List X
between p xs = take (p.to - p.from) (drop p.from xs)

-- Behind what stands below there is a list of this kind, and no more.
abbrev pub IsOnTop : {X : Type 0} → List X → (List X → Type 0) → List X → Type 0
IsOnTop below IsSuch all = (top : List _) × (all ≡ below ++ top) × IsSuch top
