-- Kinds for the sets of a tree's first declarations.
use Rattle.std.specs.Prelude.{◌≡◌, ℕ, ◌≤◌, List, ◌++◌, length, slice_get, Some}
use Rattle.theory_syntax.specs.Types.{Types}
use Rattle.theory_semantics.specs.Kinds.Kind.{Kinds, BeginsInTurn}
use Rattle.theory_text.specs.Raw.{RawScript}
use Rattle.theory_checking.specs.Sets.{nametype_sets, constructor_sets, channel_sets, IsSetOf}

-- The kinds fit the sets of these declarations, and there may be kinds for more nametypes, constructors, channels and fields.
pub record FitFirstSets (types : Types) (so_far : RawScript) (kinds : Kinds) : Type 0 where
  pub nametypes : BeginsInTurn (IsSetOf types kinds) (nametype_sets so_far) kinds.nametypes
  pub constructors : BeginsInTurn (BeginsInTurn (IsSetOf types kinds)) (constructor_sets so_far) kinds.constructors
  pub channels : BeginsInTurn (BeginsInTurn (IsSetOf types kinds)) (channel_sets so_far) kinds.channels

-- The declarations so far are the first of the tree, but that the last of them may have fewer constructors, channels and
-- fields than there: no more nametypes than those of the tree, no more constructors and channels, and no more fields in each.
pub record IsBeginningOf (raw : RawScript) (so_far : RawScript) : Type 0 where
  pub above : RawScript
  pub last : RawScript
  pub below : RawScript
  pub stands : so_far ≡ above ++ last
  pub in_tree : raw ≡ above ++ below
  pub one : length last ≤ 1
  pub nametypes : length (nametype_sets so_far) ≤ length (nametype_sets raw)
  pub constructors : BeginsInTurn (λ r s. length r ≤ length s) (constructor_sets so_far) (constructor_sets raw)
  pub channels : BeginsInTurn (λ r s. length r ≤ length s) (channel_sets so_far) (channel_sets raw)

-- the numbers of the field at this place of the first of these channels in turn
abbrev pub IsColumn : ℕ → List ℕ → List (List ℕ) → Type 0
IsColumn i ms rows = BeginsInTurn (λ m row. slice_get row i ≡ Some m) ms rows
