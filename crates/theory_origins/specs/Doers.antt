-- Who does an event: the parts of a process that do it, each with the way down to it and with the event that it is there.
use Rattle.std.specs.Prelude.{List, [], ◌∷◌, ◌++◌, map, Contains}
use Rattle.theory_syntax.specs.Value.{Event, Action, Tau, Tick, Ev}
use Rattle.theory_syntax.specs.Process.{Process, Script}
use Rattle.theory_semantics.specs.Meaning.Transitions.{RuleStep}
use Rattle.theory_origins.specs.Action.{action_of}
use Rattle.theory_origins.specs.Origin.{Side, Left, Right, Passage, OnSide, InBody, OnBranch, UnderGuard, InChain, SideEnds, Hides, Renames, Origin, Does, Ends, Unfolds, Chooses, Slides, Below, Together}
use Rattle.theory_origins.specs.Parts.{placed_parts}

-- The sides on the way down to a part, from the outermost one on, and the event that it does. Above it that may be renamed.
pub record Doer : Type 0 where
  pub way : List Side
  pub event : Event

-- the same from one level further up
abbrev pub further : Side → Doer → Doer
further side d = record { way = side ∷ d.way; event = d.event }

abbrev pub all_further : Side → List Doer → List Doer
all_further side ds = map (further side) ds

-- the process itself, if it does an event
abbrev pub by_itself : Action → List Doer
by_itself Tau = []
by_itself Tick = []
by_itself (Ev e) = record { way = []; event = e } ∷ []

-- those that do the event above a part that does this action, where these do it in the part
abbrev pub doers_through : Passage → Action → List Doer → List Doer
doers_through (OnSide side) x ds = all_further side ds
doers_through InBody x ds = ds
doers_through (OnBranch side) x ds = by_itself x
doers_through UnderGuard x ds = by_itself x
doers_through InChain x ds = by_itself x
doers_through (SideEnds side) x ds = []
doers_through (Hides e) x ds = ds
doers_through (Renames e f) x ds = ds

-- The parts that do an event in the steps from an origin, from the left to the right. A choice, say, is one part: which side
-- of it does the event is not told.
abbrev pub doers : Origin → List Doer
doers (Does e) = by_itself (Ev e)
doers Ends = []
doers (Unfolds n) = []
doers (Chooses side) = []
doers Slides = []
doers (Below passage part) = doers_through passage (action_of part) (doers part)
doers (Together left right) = all_further Left (doers left) ++ all_further Right (doers right)

-- one of the parts that stand beside one another has this way, and can do the event
pub record IsDoneBy (script : Script) (p : Process) (d : Doer) : Type 0 where
  pub part : Process
  pub placed : Contains (placed_parts p) (record { way = d.way; process = part })
  pub target : Process
  pub does : RuleStep script part (Ev d.event) target

abbrev pub AreDoneBy : Script → Process → List Doer → Type 0
AreDoneBy script p ds = (d : Doer) → Contains ds d → IsDoneBy script p d
