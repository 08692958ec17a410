-- What is known of the kinds of a tree's parts, once the sets of some declarations are looked at.
use Rattle.std.specs.Prelude.{ℕ, List, Option, slice_get}
use Rattle.theory_text.specs.Raw.{RawScript}
use Rattle.theory_checking.specs.Resolving.{every}
use Rattle.theory_checking.specs.Sets.{types_of}
use Rattle.theory_checking.specs.Inference.State.{State, nothing_known, KindEquation, IsSolved}
use Rattle.theory_checking.specs.Inference.Equations.{Ask, Numbering, kinds_under, AreOwners}
use Rattle.theory_checking.specs.Inference.Items.{AreNumbersFor, next_number}
use Rattle.theory_checking.specs.Inference.Sets.{FitFirstSets}

-- The numbering is the tree's, and the state solves the equations that the sets so far ask for. The numbers below the
-- next one are in use.
pub record AreKnown (raw so_far : RawScript) (o : Numbering) (next : ℕ) (s : State) : Type 0 where
  pub owners : AreOwners (types_of raw) o
  pub numbers : AreNumbersFor raw (next_number raw) o
  pub met : List KindEquation
  pub asked : Ask (next_number raw) met next (λ a. FitFirstSets (types_of raw) so_far (kinds_under a o))
  pub solved : IsSolved nothing_known met s

-- the numbers of the field at this place of each of these channels, if each has it
abbrev pub column_of : ℕ → List (List ℕ) → Option (List ℕ)
column_of i rows = every (λ row. slice_get row i) rows
