-- The steps of two sides.
use Rattle.std.specs.Prelude.{◌≡◌, ◌≤◌, ℕ, Bool, cond, ◌&&◌, List, [], ◌∷◌, length, None}
use Rattle.theory_syntax.specs.Value.{Tick}
use Rattle.theory_syntax.specs.Process.{Script}
use Rattle.theory_shapes.specs.Shape.{Composition}
use Rattle.theory_shapes.specs.Combining.{Sides, StepsTo, composed_steps, is_left_free, is_right_free, is_shared}
use Rattle.theory_shapes.specs.Moves.{both_changes}
use Rattle.csp_rows.specs.declared.changes.Change.{Change}
use Rattle.csp_rows.specs.declared.composed.Side as placed
use Rattle.csp_rows.specs.declared.composed.SideBits.{SideBits}
use Rattle.csp_rows.specs.declared.numbers.ActionId.TheVariants as by_number
use Rattle.csp_rows.specs.declared.step.Step.{Step}
use Rattle.csp_rows.specs.Stacks.{ArePlacesIn, between}
use Rattle.csp_rows.specs.Numbering.{AreBitsOf, Numbering}
use Rattle.csp_rows.specs.Runs.{AreNumbered, AreToldIn, IsGrown, KeepsParts, Side, Told, steps_of, side_of, told_of}

-- the bits are those of the events that each side does alone, and that both do together
pub record AreSideBitsOf {A : Type 0} (z : Numbering) (script : Script) (c : Composition) (bits : SideBits A) : Type 0 where
  pub left_free : AreBitsOf z (is_left_free script c) bits.left_free.marks.items
  pub right_free : AreBitsOf z (is_right_free script c) bits.right_free.marks.items
  pub shared : AreBitsOf z (is_shared script c) bits.shared.marks.items

-- the changes of two sides are those of the whole
abbrev pub told_sides : Numbering → List Change → Side → Side → Sides Told
told_sides z pool left right = record {
  on_left = λ o. o;
  on_right = λ o. o;
  together = both_changes;
  left_ended = told_of z pool left.ending;
  right_ended = told_of z pool right.ending;
}

-- the tick of two sides that have both ended
abbrev pub end_steps : Bool → Bool → List Step
end_steps left right = cond (left && right) (record { action = by_number.Tick; changes = None } ∷ []) []

-- and what it stands for
abbrev pub ends_of : Bool → Bool → StepsTo Told
ends_of left right = cond (left && right) ((Tick, None) ∷ []) []

-- These are the steps of the composition of two sides where the bits are its bits. The pool has grown.
pub record IsComposed {A : Type 0} (bits : SideBits A) (left right : Side) (pool after : List Change) (steps : List Step) : Type 0 where
  pub grown : IsGrown pool after
  pub keeps : KeepsParts pool after
  pub inside : AreToldIn (length after) steps
  pub numbered : (events : ℕ) → AreNumbered events left.steps → AreNumbered events right.steps → AreNumbered events steps
  pub made : (z : Numbering) (script : Script) (c : Composition) → AreSideBitsOf z script c bits → AreNumbered z.events left.steps → AreNumbered z.events right.steps
      → steps_of z after steps ≡ composed_steps script c (told_sides z pool left right) (steps_of z pool left.steps) (steps_of z pool right.steps) (ends_of left.has_ended right.has_ended)

-- ---- sides on a stack

-- the side whose steps stand at its places
abbrev pub side_at : placed.Side → List Step → Side
side_at side ss = side_of (between side.steps ss) side.end

-- The right side stands on top of so many, and the left one below it.
pub record AreOnTop (below above : placed.Side) (n : ℕ) : Type 0 where
  pub left : below.steps.from ≤ below.steps.to
  pub meets : below.steps.to ≡ above.steps.from
  pub right : ArePlacesIn n above.steps
  pub top : above.steps.to ≡ n
