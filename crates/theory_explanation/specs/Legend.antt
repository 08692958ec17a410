-- By which names what is on a way is told.
use Rattle.std.specs.Prelude.{ℕ, Bool, true, false, List, [], ◌∷◌, ◌++◌, codes, if◌then◌else◌, Option, Some, None}
use Rattle.theory_search.specs.Printing.{name_at}
use Rattle.theory_origins.specs.Origin.{Side, Left, Right}
use Rattle.theory_notation.specs.Names.{Names}
use Rattle.theory_explanation.specs.PartNames.{PartName, name_of}

-- The names of the script, and those of the parts, at the end of a way from the whole on.
pub record Legend : Type 0 where
  pub names : Names
  pub parts : List PartName
  pub way : List Side

-- at the whole
abbrev pub legend : Names → List PartName → Legend
legend names parts = record { names = names; parts = parts; way = [] }

-- at a side
abbrev pub at_side : Side → Legend → Legend
at_side side l = record { names = l.names; parts = l.parts; way = l.way ++ side ∷ [] }

-- within a part, where nothing has a name of its own
abbrev pub within_part : Legend → Legend
within_part l = record { names = l.names; parts = []; way = l.way }

-- ---- the text

abbrev pub side_text : Side → List ℕ
side_text Left = codes "left"
side_text Right = codes "right"

abbrev pub is_nil : List Side → Bool
is_nil [] = true
is_nil (side ∷ way) = false

-- sides with `.` before each
abbrev pub way_behind : List Side → List ℕ
way_behind [] = []
way_behind (side ∷ way) = codes "." ++ (side_text side ++ way_behind way)

-- the way down to a part, from the outermost side on
abbrev pub way_text : List Side → List ℕ
way_text [] = []
way_text (side ∷ way) = side_text side ++ way_behind way

-- what a part is called, if it has a name
abbrev pub called : Names → Option ℕ → List ℕ
called names (Some n) = codes " (" ++ (name_at names.equations n ++ codes ")")
called names None = []

-- a way from where the legend stands, with the name of the part at its end
abbrev pub part_text : Legend → List Side → List ℕ
part_text l way = way_text way ++ called l.names (name_of l.parts (l.way ++ way))

-- the name of the part where the legend stands; the whole is told by none
abbrev pub name_here : Legend → List ℕ
name_here l = if is_nil l.way then [] else called l.names (name_of l.parts l.way)
