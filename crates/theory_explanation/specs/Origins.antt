-- Where a step comes from, in words.
use Rattle.std.specs.Prelude.{ℕ, List, [], ◌∷◌, ◌++◌, codes, if◌then◌else◌, Option, Some, None}
use Rattle.theory_syntax.specs.Value.{Event, event_eq, Action, Tau, Tick, Ev}
use Rattle.theory_search.specs.Printing.{name_at}
use Rattle.theory_origins.specs.Doers.{Doer, doers}
use Rattle.theory_origins.specs.Origin.{OnSide, InBody, OnBranch, UnderGuard, InChain, SideEnds, Hides, Renames, Origin, Does, Ends, Unfolds, Chooses, Slides, Below, Together}
use Rattle.theory_notation.specs.Names.{Names}
use Rattle.theory_explanation.specs.Actions.{event_text}
use Rattle.theory_explanation.specs.Legend.{Legend, at_side, is_nil, name_here, part_text, side_text, within_part}

-- the event of a part, where it is another one than the whole does: it is renamed above
abbrev pub below_text : Names → Event → Event → List ℕ
below_text names seen below = if event_eq seen below then [] else codes " as " ++ event_text names below

-- A part that does an event, behind a mark. A part without a way is the process itself, and no more is told than its event.
abbrev pub doer_text : Legend → Event → List ℕ → Doer → List ℕ
doer_text l seen mark d = if is_nil d.way then below_text l.names seen d.event else mark ++ (part_text l d.way ++ below_text l.names seen d.event)

abbrev pub doers_behind : Legend → Event → List Doer → List ℕ
doers_behind l seen [] = []
doers_behind l seen (d ∷ ds) = doer_text l seen (codes ", ") d ++ doers_behind l seen ds

-- the parts that do an event
abbrev pub doers_text : Legend → Event → List Doer → List ℕ
doers_text l seen [] = []
doers_text l seen (d ∷ ds) = doer_text l seen (codes " by ") d ++ doers_behind l seen ds

-- The sides on the way down to the part that moves, the first behind the mark and the others behind `.`, with its name, and
-- behind `:` what moves it. What unfolds is told by the name that it unfolds. Through a body, and a chain of instances, the
-- way is not told. Of a hidden event the parts that do it are told, by their ways from there on.
abbrev pub origin_text : Legend → List ℕ → Origin → List ℕ
origin_text l mark (Does e) = name_here l ++ (codes ": " ++ event_text l.names e)
origin_text l mark Ends = name_here l ++ codes ": ends"
origin_text l mark (Unfolds n) = codes ": unfolds " ++ name_at l.names.equations n
origin_text l mark (Chooses side) = name_here l ++ (codes ": chooses its " ++ (side_text side ++ codes " side"))
origin_text l mark Slides = name_here l ++ codes ": slides to its right side"
origin_text l mark (Below (OnSide side) part) = mark ++ (side_text side ++ origin_text (at_side side l) (codes ".") part)
origin_text l mark (Below InBody part) = origin_text l mark part
origin_text l mark (Below (OnBranch side) part) = mark ++ (side_text side ++ origin_text (within_part l) (codes ".") part)
origin_text l mark (Below UnderGuard part) = origin_text l mark part
origin_text l mark (Below InChain part) = origin_text l mark part
origin_text l mark (Below (SideEnds side) part) = mark ++ (side_text side ++ origin_text (at_side side l) (codes ".") part)
origin_text l mark (Below (Hides e) part) = name_here l ++ (codes ": hidden " ++ (event_text l.names e ++ doers_text l e (doers part)))
origin_text l mark (Below (Renames e f) part) = name_here l ++ (codes ": " ++ (event_text l.names f ++ doers_text l f (doers part)))
origin_text l mark (Together left right) = name_here l ++ codes ": both sides"

-- What stands behind an action: of a tau its origin, and of an event the parts that do it, if they are told.
abbrev pub source_text : Legend → Action → Option Origin → List ℕ
source_text l Tau (Some o) = origin_text l (codes ": ") o
source_text l Tau None = []
source_text l Tick o = []
source_text l (Ev e) (Some o) = doers_text l e (doers o)
source_text l (Ev e) None = []
