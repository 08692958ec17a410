-- What is seen of a step, by its origin.
use Rattle.theory_syntax.specs.Value.{Action, Tau, Tick, Ev}
use Rattle.theory_origins.specs.Origin.{Passage, OnSide, InBody, OnBranch, UnderGuard, InChain, SideEnds, Hides, Renames, Origin, Does, Ends, Unfolds, Chooses, Slides, Below, Together}

-- the action that a part's action becomes on the way up
abbrev pub action_above : Passage → Action → Action
action_above (OnSide side) x = x
action_above InBody x = x
action_above (OnBranch side) x = x
action_above UnderGuard x = x
action_above InChain x = x
action_above (SideEnds side) x = Tau
action_above (Hides e) x = Tau
action_above (Renames e f) x = Ev f

-- the action of the steps from this origin
abbrev pub action_of : Origin → Action
action_of (Does e) = Ev e
action_of Ends = Tick
action_of (Unfolds n) = Tau
action_of (Chooses side) = Tau
action_of Slides = Tau
action_of (Below passage o) = action_above passage (action_of o)
action_of (Together left right) = action_of left
