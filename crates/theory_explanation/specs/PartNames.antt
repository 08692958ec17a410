-- By which name a part is told: that of the equation that was unfolded last at its way.
use Rattle.std.specs.Prelude.{ℕ, Bool, true, false, not, ◌&&◌, if◌then◌else◌, List, [], ◌∷◌, ◌++◌, Option, Some, None}
use Rattle.std.specs.List.{filter}
use Rattle.std.specs.Option.{option_map}
use Rattle.theory_syntax.specs.Expression.{Expressions}
use Rattle.theory_syntax.specs.Process.{Call, Process, Script}
use Rattle.theory_origins.specs.Parts.{IsPartAt}
use Rattle.theory_origins.specs.Origin.{Side, Left, Right, Passage, OnSide, InBody, OnBranch, UnderGuard, InChain, SideEnds, Hides, Renames, Origin, Does, Ends, Unfolds, Chooses, Slides, Below, Together}

-- A way, as sides from the outermost one on, and the equation that was unfolded last there.
pub record PartName : Type 0 where
  pub way : List Side
  pub equation : ℕ

-- ---- what a step unfolds

-- the same from one level further up
abbrev pub name_further : Side → PartName → PartName
name_further side d = record { way = side ∷ d.way; equation = d.equation }

-- The same above a part. Of a choice, say, it is not told, which is one part with all that it is made of.
abbrev pub name_above : Passage → Option PartName → Option PartName
name_above (OnSide side) d = option_map (name_further side) d
name_above InBody d = d
name_above (OnBranch side) d = None
name_above UnderGuard d = d
name_above InChain d = d
name_above (SideEnds side) d = None
name_above (Hides e) d = None
name_above (Renames e f) d = None

-- the equation that a step unfolds, and where
abbrev pub unfolded : Origin → Option PartName
unfolded (Does e) = None
unfolded Ends = None
unfolded (Unfolds n) = Some (record { way = []; equation = n })
unfolded (Chooses side) = None
unfolded Slides = None
unfolded (Below passage part) = name_above passage (unfolded part)
unfolded (Together left right) = None

-- a call of that equation stands at that way
abbrev pub IsCallAt : Script → Process → PartName → Type 0
IsCallAt script p d = (es : Expressions) × IsPartAt script p d.way (Call d.equation es)

-- ---- the names behind steps

abbrev pub same_side : Side → Side → Bool
same_side Left Left = true
same_side Left Right = false
same_side Right Left = false
same_side Right Right = true

abbrev pub same_way : List Side → List Side → Bool
same_way [] [] = true
same_way [] (t ∷ v) = false
same_way (s ∷ w) [] = false
same_way (s ∷ w) (t ∷ v) = same_side s t && same_way w v

abbrev pub is_at : List Side → PartName → Bool
is_at way d = same_way d.way way

-- a name in place of the one that was told at its way
abbrev pub with_name : List PartName → Option PartName → List PartName
with_name parts (Some d) = filter (λ e. not (is_at d.way e)) parts ++ d ∷ []
with_name parts None = parts

-- the names behind a step, if it is told
abbrev pub part_names_behind : List PartName → Option Origin → List PartName
part_names_behind parts (Some o) = with_name parts (unfolded o)
part_names_behind parts None = parts

-- the names behind steps
abbrev pub names_along : List PartName → List (Option Origin) → List PartName
names_along parts [] = parts
names_along parts (o ∷ origins) = names_along (part_names_behind parts o) origins

-- the equation by which the part at the way is told, if there is one
abbrev pub name_of : List PartName → List Side → Option ℕ
name_of [] way = None
name_of (d ∷ parts) way = if is_at way d then Some d.equation else name_of parts way
