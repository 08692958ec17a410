-- The moves that a text names, as the code says it.
use Rattle.std.specs.Prelude.{◌≡◌, ⊤, ℕ, List, [], ◌∷◌, Option, Some, None, slice_get}
use Rattle.theory_walk.specs.Moves as pure
use Rattle.state_walk.specs.declared.naming.Meant.{Meant}
use Rattle.state_walk.specs.declared.naming.Meant.TheVariants as meant

-- these of the moves are named
abbrev pub IsNamed : List pure.Move → Meant → List pure.Move → Type 0
IsNamed moves meant.Nothing found = found ≡ []
IsNamed moves (meant.One place) found = (m : pure.Move) × (slice_get moves place ≡ Some m) × (found ≡ m ∷ [])
IsNamed moves meant.Several found = (m other : pure.Move) × (others : List pure.Move) × (found ≡ m ∷ other ∷ others)

-- the move stands at the place, if there is one
abbrev pub IsPlaceOf : List pure.Move → Option ℕ → Option pure.Move → Type 0
IsPlaceOf moves (Some place) (Some m) = slice_get moves place ≡ Some m
IsPlaceOf moves None None = ⊤
IsPlaceOf moves place found = ⊥

-- with the one at the place
abbrev pub one_more : Meant → ℕ → Meant
one_more meant.Nothing place = meant.One place
one_more (meant.One other) place = meant.Several
one_more meant.Several place = meant.Several
