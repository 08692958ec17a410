-- What is added to steps, where those of the sides of an operator are put together.
use Rattle.std.specs.Prelude.{◌≡◌, ℕ, Bool, false, nat_eq, get_or, if◌then◌else◌, List, [], ◌∷◌, length, Option, Some, None}
use Rattle.theory_syntax.specs.Value.{Event}
use Rattle.theory_shapes.specs.Combining.{StepsTo, each_to, jointly}
use Rattle.theory_shapes.specs.Moves.{both_changes}
use Rattle.csp_rows.specs.declared.changes.Change.{Change}
use Rattle.csp_rows.specs.declared.changes.Run.{Run}
use Rattle.csp_rows.specs.declared.numbers.ActionId.{ActionId}
use Rattle.csp_rows.specs.declared.numbers.ActionId.TheVariants as by_number
use Rattle.csp_rows.specs.declared.step.Step.{Step}
use Rattle.csp_rows.specs.Numbering.{AreBitsOf, Numbering}
use Rattle.csp_rows.specs.Runs.{AreNumbered, AreToldIn, IsGrown, KeepsParts, Told, step_of, steps_of}

-- ---- what a side does alone

-- what a side does alone by a step of these changes
abbrev pub alone_by : List Bool → Option Run → ActionId → Option Run → Option Step
alone_by free ending by_number.Tau changes = Some (record { action = by_number.Tau; changes = changes })
alone_by free ending by_number.Tick changes = Some (record { action = by_number.Tau; changes = ending })
alone_by free ending (by_number.Event n) changes = if get_or free n.0 false then Some (record { action = by_number.Event n; changes = changes }) else None

-- what a side does alone by a step, where it may do the events that have a bit
abbrev pub done_alone : List Bool → Option Run → Step → Option Step
done_alone free ending s = alone_by free ending s.action s.changes

abbrev pub done_first : Option Step → List Step → List Step
done_first None ss = ss
done_first (Some s) ss = s ∷ ss

-- and by all its steps
abbrev pub kept_alone : List Bool → Option Run → List Step → List Step
kept_alone free ending [] = []
kept_alone free ending (s ∷ ss) = done_first (done_alone free ending s) (kept_alone free ending ss)

-- ---- what two sides do together

-- whether two actions are one event
abbrev pub is_same : ActionId → ActionId → Bool
is_same (by_number.Event n) (by_number.Event m) = nat_eq n.0 m.0
is_same _ _ = false

-- whether an action is an event that has a bit
abbrev pub is_marked : List Bool → ActionId → Bool
is_marked bits (by_number.Event n) = get_or bits n.0 false
is_marked bits _ = false

-- what a step of the left side and one of the right side do together
abbrev pub made_of_two : List Change → Step → Step → Numbering → (Event → Bool) → StepsTo Told
made_of_two pool l r z test = let x = step_of z pool l in let y = step_of z pool r in jointly test both_changes x.0 x.1 y.0 y.1

-- what a step of the left side does together with each of the right side
abbrev pub made_with_each : List Change → Step → List Step → Numbering → (Event → Bool) → StepsTo Told
made_with_each pool l rs z test = let x = step_of z pool l in each_to (jointly test both_changes x.0 x.1) (steps_of z pool rs)

-- what the steps of two sides do together
abbrev pub made_of_all : List Change → List Step → List Step → Numbering → (Event → Bool) → StepsTo Told
made_of_all pool ls rs z test = each_to (λ x o. each_to (jointly test both_changes x o) (steps_of z pool rs)) (steps_of z pool ls)

-- What is added is made of these sides, where they do the events that have a bit together. The pool has grown.
pub record AreShared (shared : List Bool) (lefts rights : List Step) (pool after : List Change) (made_of : Numbering → (Event → Bool) → StepsTo Told) (added : List Step) : Type 0 where
  pub grown : IsGrown pool after
  pub keeps : KeepsParts pool after
  pub inside : AreToldIn (length after) added
  pub numbered : (events : ℕ) → AreNumbered events lefts → AreNumbered events added
  pub made : (z : Numbering) (test : Event → Bool) → AreBitsOf z test shared → AreNumbered z.events lefts → AreNumbered z.events rights
      → steps_of z after added ≡ made_of z test

-- what two steps do together is added
abbrev pub AddsJoint : List Bool → Step → Step → List Change → List Change → List Step → Type 0
AddsJoint shared l r pool after = AreShared shared (l ∷ []) (r ∷ []) pool after (made_of_two pool l r)

-- what a step of the left side does together with each of the right side is
abbrev pub AddsJoints : List Bool → Step → List Step → List Change → List Change → List Step → Type 0
AddsJoints shared l rs pool after = AreShared shared (l ∷ []) rs pool after (made_with_each pool l rs)

-- what the steps of two sides do together is
abbrev pub AddsShared : List Bool → List Step → List Step → List Change → List Change → List Step → Type 0
AddsShared shared ls rs pool after = AreShared shared ls rs pool after (made_of_all pool ls rs)
