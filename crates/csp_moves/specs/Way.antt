-- The ways that those of the code stand for.
use Rattle.std.specs.Prelude.{List, map, Option}
use Rattle.std.specs.Option.{option_map}
use Rattle.std.specs.declared.vec.Vec.{Vec}
use denote.Ref.{Bor}
use Rattle.theory_syntax.specs.Value as value
use Rattle.theory_syntax.specs.Process.{Process, Script}
use Rattle.theory_origins.specs.Origin as pure
use Rattle.theory_origins.specs.Ways as meaning
use Rattle.csp_value.specs.Action.{event_of}
use Rattle.csp_term.specs.declared.term.Term.{Term}
use Rattle.csp_term.specs.Term.{process_of}
use Rattle.csp_moves.specs.declared.way.LentAction.{LentAction}
use Rattle.csp_moves.specs.declared.way.LentAction.TheVariants as action
use Rattle.csp_moves.specs.declared.way.LentPassage.{LentPassage}
use Rattle.csp_moves.specs.declared.way.LentPassage.TheVariants as passage
use Rattle.csp_moves.specs.declared.way.Part.{Part}
use Rattle.csp_moves.specs.declared.way.Way.{Way}
use Rattle.csp_moves.specs.declared.way.Way.TheVariants as variant
use Rattle.csp_moves.specs.Passage.{side_of}

abbrev pub lent_action : {A : Type 0} → LentAction A → value.Action
lent_action action.Tau = value.Tau
lent_action action.Tick = value.Tick
lent_action (action.Event e) = value.Ev (event_of e.now)

abbrev pub lent_passage : {A : Type 0} → LentPassage A → pure.Passage
lent_passage (passage.OnSide s) = pure.OnSide (side_of s)
lent_passage passage.InBody = pure.InBody
lent_passage (passage.OnBranch s) = pure.OnBranch (side_of s)
lent_passage passage.UnderGuard = pure.UnderGuard
lent_passage passage.InChain = pure.InChain
lent_passage (passage.SideEnds s) = pure.SideEnds (side_of s)
lent_passage (passage.Hides e) = pure.Hides (event_of e.now)
lent_passage (passage.Renames e f) = pure.Renames (event_of e.now) (event_of f.now)

-- the process of a term that is lent, if there is one
abbrev pub lent_process : {A : Type 0} → Option (Bor (Term A)) → Option Process
lent_process t = option_map (λ u. process_of u.now) t

abbrev pub part_of : {A : Type 0} → Part A → meaning.Part
part_of p = meaning.part (process_of p.process.now) (lent_action p.action) (lent_process p.target)

abbrev pub way_of : {A : Type 0} → Way A → meaning.Way
way_of (variant.Does e) = meaning.Here (pure.Does (event_of e.now))
way_of variant.Ends = meaning.Here pure.Ends
way_of (variant.Unfolds n) = meaning.Here (pure.Unfolds n.0)
way_of (variant.Chooses s) = meaning.Here (pure.Chooses (side_of s))
way_of variant.Slides = meaning.Here pure.Slides
way_of (variant.Through p part) = meaning.Through (lent_passage p) (part_of part)
way_of (variant.Both left right) = meaning.Both (part_of left) (part_of right)

abbrev pub ways_of : {A : Type 0} → Vec (Way A) A → List meaning.Way
ways_of ways = map way_of ways.items

-- these are the ways of the step in the script
abbrev pub AreFoundIn : {A : Type 0} → Script → Process → value.Action → Process → Vec (Way A) A → Type 0
AreFoundIn s p x t ways = meaning.AreWays s p x t (ways_of ways)

-- and these in any script
abbrev pub AreFound : {A : Type 0} → Process → value.Action → Process → Vec (Way A) A → Type 0
AreFound p x t ways = (s : Script) → AreFoundIn s p x t ways
