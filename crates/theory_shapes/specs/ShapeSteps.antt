-- The steps of a shape as changes of its parts.
use Rattle.std.specs.Prelude.{◌≡◌, ◌<◌, ◌↔◌, ◌⊎◌, ⊤, IsTrue, ℕ, ◌+◌, Contains, List, [], ◌∷◌, length, map, Option, Some, None}
use Rattle.std.specs.List.{AllByRecursion}
use Rattle.theory_syntax.specs.Value.{Action, Tau, Tick, has_action}
use Rattle.theory_syntax.specs.Process.{Process, Omega, Script}
use Rattle.theory_semantics.specs.Meaning.Stepping.{Steps, both_ended}
use Rattle.theory_semantics.specs.Meaning.Transitions.{RuleStep, IsNotStuck, IsNotTick}
use Rattle.theory_semantics.specs.Meaning.Limits.{fits}
use Rattle.theory_semantics.specs.Meaning.Offers.{IsAcceptance, IsRising}
use Rattle.theory_semantics.specs.Laws.Statements.{StepsAre}
use Rattle.theory_shapes.specs.Shape.{Shape, Hole, Composed, Framed, holes, part_at, fill_from, fill}
use Rattle.theory_shapes.specs.Changes.{Change, RiseWithin, changed}
use Rattle.theory_shapes.specs.Combining.{StepsTo, Sides, composed_steps, framed_steps}
use Rattle.theory_shapes.specs.Moves.{both_changes, steps_at}
use Rattle.theory_shapes.specs.Operators.{HasValues}

-- Steps, each with its changes, or without them where it does not leave the shape as it is.
abbrev pub ShapeSteps : Type 0
ShapeSteps = StepsTo (Option (List Change))

-- a part takes the place of the one in a hole
abbrev pub put_in : ℕ → Process → Option (List Change)
put_in n p = Some (record { hole = n; part = p } ∷ [])

-- the changes by which a side ends: it has to be a hole
abbrev pub ended_side : ℕ → Shape → Option (List Change)
ended_side n Hole = put_in n Omega
ended_side n (Composed c l r) = None
ended_side n (Framed f s) = None

-- a side's changes are those of the whole
abbrev pub changing_sides : ℕ → Shape → Shape → Sides (Option (List Change))
changing_sides n l r = record { on_left = λ o. o; on_right = λ o. o; together = both_changes; left_ended = ended_side n l; right_ended = ended_side (n + holes l) r }

-- All steps of a shape with parts in its holes, of which the first is that of this number, by the steps of each part.
abbrev pub steps_from : Script → ℕ → Shape → List Process → List Steps → ShapeSteps
steps_from script n Hole parts known = map (λ s. (s.0, put_in n s.1)) (steps_at known n)
steps_from script n (Composed c l r) parts known =
    composed_steps script c (changing_sides n l r) (steps_from script n l parts known) (steps_from script (n + holes l) r parts known)
    (map (λ s. (s.0, None)) (both_ended (fill_from n l parts) (fill_from (n + holes l) r parts)))
steps_from script n (Framed f s) parts known = framed_steps script f (λ o. o) None (steps_from script n s parts known)

abbrev pub shape_steps : Script → Shape → List Process → List Steps → ShapeSteps
shape_steps script s parts known = steps_from script 0 s parts known

-- What is known of the part in each hole are exactly its steps.
abbrev pub AreKnown : Script → Shape → List Process → List Steps → Type 0
AreKnown script s parts known = (i : ℕ) → i < holes s → StepsAre script (part_at parts i) (steps_at known i)

-- Each part has been fired: it is not stuck, and these are its steps.
abbrev pub AreFired : Script → Shape → List Process → List Steps → Type 0
AreFired script s parts known = (i : ℕ) → i < holes s → IsNotStuck script (part_at parts i) × ((x : Action) (u : Process) → RuleStep script (part_at parts i) x u ↔ Contains (steps_at known i) (x, u))

-- These are the steps of a shape with parts in its holes: each that has changes leads there, each of the others leads
-- somewhere, and there are no more.
pub record AreStepsOf (script : Script) (s : Shape) (parts : List Process) (steps : ShapeSteps) : Type 0 where
  pub changing : (x : Action) (cs : List Change) → Contains steps (x, Some cs) → RiseWithin 0 (holes s) cs × RuleStep script (fill s parts) x (fill s (changed cs parts))
  pub others : (x : Action) → Contains steps (x, None) → (u : Process) × RuleStep script (fill s parts) x u
  pub complete : (x : Action) (u : Process) → RuleStep script (fill s parts) x u → ((cs : List Change) × Contains steps (x, Some cs) × (u ≡ fill s (changed cs parts))) ⊎ Contains steps (x, None)

-- steps that all have changes
abbrev pub all_changing : List (Action × List Change) → ShapeSteps
all_changing ms = map (λ m. (m.0, Some m.1)) ms

-- the steps of the term, where they all have changes
abbrev pub changed_by : Shape → List Process → List (Action × List Change) → Steps
changed_by s parts ms = map (λ m. (m.0, fill s (changed m.1 parts))) ms

-- A term is covered by what was fired of its parts: there is a part for each hole, the sets and renamings of its shape
-- have values, and all its steps have changes, which are these.
pub record IsCovered (script : Script) (s : Shape) (parts : List Process) (known : List Steps) (ms : List (Action × List Change)) : Type 0 where
  pub filled : length parts ≡ holes s
  pub fired : AreFired script s parts known
  pub values : HasValues script s
  pub changing : shape_steps script s parts known ≡ all_changing ms

-- the targets of its steps are within the limits
abbrev pub TargetsFit : Shape → List Process → List (Action × List Change) → Type 0
TargetsFit s parts ms = AllByRecursion (λ m. IsTrue (fits (fill s (changed m.1 parts)))) ms

-- one of them is by this action
abbrev pub HasStepBy : List (Action × List Change) → Action → Type 0
HasStepBy ms x = (cs : List Change) × Contains ms (x, cs)

-- What a term with these steps accepts: all actions that it has steps by, if none is tau, and tick alone, if one is tick.
abbrev pub IsAcceptedBy : List (Action × List Change) → List Action → Type 0
IsAcceptedBy ms xs = ((HasStepBy ms Tau → ⊥) × IsRising xs × ((x : Action) → IsTrue (has_action xs x) ↔ HasStepBy ms x)) ⊎ (HasStepBy ms Tick × (xs ≡ Tick ∷ []))

-- The lists are exactly the steps and the acceptances of a term that is not stuck, in whatever order and however often.
pub record IsShown (script : Script) (t : Process) (steps : Steps) (offers : List (List Action)) : Type 0 where
  pub not_stuck : IsNotStuck script t
  pub each_step : (x : Action) (u : Process) → RuleStep script t x u ↔ Contains steps (x, u)
  pub each_offer : (xs : List Action) → IsAcceptance script t xs ↔ Contains offers xs

-- ---- where they all have changes

-- no part can tick
abbrev pub NoPartTicks : Shape → List Steps → Type 0
NoPartTicks s known = (i : ℕ) → i < holes s → AllByRecursion (λ z. IsNotTick z.0) (steps_at known i)

-- two sides have never both ended
abbrev pub SidesGoOn : ℕ → Shape → List Process → Type 0
SidesGoOn n Hole parts = ⊤
SidesGoOn n (Composed c l r) parts = (both_ended (fill_from n l parts) (fill_from (n + holes l) r parts) ≡ []) × SidesGoOn n l parts × SidesGoOn (n + holes l) r parts
SidesGoOn n (Framed f s) parts = SidesGoOn n s parts
