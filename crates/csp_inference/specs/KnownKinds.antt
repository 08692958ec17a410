-- What is known of the kinds of a tree's parts.
use Rattle.std.specs.Prelude.{◌+◌, ◌≡◌, ℕ, ⊤, List, [], ◌∷◌, ◌++◌, length, Option, Result, Ok, Err}
use Rattle.theory_syntax.specs.Expression.{Expression}
use Rattle.theory_syntax.specs.Types.{Types}
use Rattle.theory_text.specs.Raw.{RawClause, RawDatatype, RawName, RawDomain, RawNametype, RawChannels, RawScript}
use Rattle.theory_checking.specs.Sets.{constructor_sets, types_of, set_expression, nametype_sets, channel_sets}
use Rattle.theory_checking.specs.Sites.{with_clause}
use Rattle.theory_checking.specs.Rules.{SomeFit}
use Rattle.theory_checking.specs.Inference.State.{IsResolved}
use Rattle.csp_inference.specs.declared.misfit.Misfit.{Misfit}
use Rattle.csp_inference.specs.declared.misfit.Misfit.TheVariants as misfit
use Rattle.csp_inference.specs.Numbering.{numbering_of}
use Rattle.csp_inference.specs.State.{state_in}
use Rattle.csp_inference.specs.declared.known_kinds.KnownKinds.{KnownKinds}
use Rattle.csp_inference.specs.declared.fitted_sets.Column.{Column}
use Rattle.csp_inference.specs.Known.{AreKnown}

-- The kinds of the sets so far are known, over the numbers of the whole tree.
abbrev pub KnowsKinds : {A : Type 0} → RawScript → RawScript → KnownKinds A → Type 0
KnowsKinds raw so_far known = AreKnown raw so_far (numbering_of known.numbering) known.equations.next (state_in known.equations.state)

-- No bound number stands at the end of a bound kind. So it is wherever kinds are known over a tree.
abbrev pub HasResolvedKinds : {A : Type 0} → KnownKinds A → Type 0
HasResolvedKinds known = IsResolved (state_in known.equations.state)

-- Some kinds fit the sets so far, and they are known; or none do. Refused memory says nothing.
abbrev pub Fits : {A : Type 0} → RawScript → RawScript → KnownKinds A → Result (Unit {0}) Misfit → Type 0
Fits raw so_far known (Ok _) = KnowsKinds raw so_far known × SomeFit (types_of raw) so_far
Fits raw so_far known (Err misfit.NoKinds) = ¬ (SomeFit (types_of raw) so_far)
Fits raw so_far known (Err misfit.Memory) = ⊤

-- Over a tree in which the nametype stands behind so many others, with this set or one in which a name is refused:
-- whether some kinds fit the sets up to it.
abbrev pub FitsNametype : {A : Type 0} → Types → ℕ → Option Expression → KnownKinds A → KnownKinds A → Result (Unit {0}) Misfit → Type 0
FitsNametype types nametype set old new result =
    (raw above below : RawScript) (name : RawName) (domain : RawDomain) → raw ≡ above ++ RawNametype name domain ∷ below → types.datatypes ≡ (types_of raw).datatypes → nametype ≡ length (nametype_sets above) →
    set ≡ set_expression above domain → KnowsKinds raw above old → Fits raw (above ++ RawNametype name domain ∷ []) new result

-- Over a tree in which a constructor has this set as its next field, or one in which a name is refused: whether some
-- kinds fit the sets up to it.
abbrev pub FitsClauseField : {A : Type 0} → Types → ℕ → ℕ → Option Expression → KnownKinds A → KnownKinds A → Result (Unit {0}) Misfit → Type 0
FitsClauseField types constructor field set old new result =
    (raw above below : RawScript) (name : RawName) (clauses more : List RawClause) (c : RawName) (before rest : List RawDomain) (d : RawDomain) → raw ≡ above ++ RawDatatype name (clauses ++ record { name = c; fields = before ++ d ∷ rest } ∷ more) ∷ below →
    types.datatypes ≡ (types_of raw).datatypes → constructor ≡ length (constructor_sets above) + length clauses → field ≡ length before → set ≡ set_expression above d →
    KnowsKinds raw (with_clause above name clauses c before) old → Fits raw (with_clause above name clauses c (before ++ d ∷ [])) new result

-- The column is that of the field behind so many others, of channels behind so many others.
pub record IsColumnOf (column : Column) (above : RawScript) (names : List RawName) (before : List RawDomain) : Type 0 where
  pub first : column.first ≡ length (channel_sets above)
  pub channels : column.channels ≡ length names
  pub field : column.field ≡ length before

-- Over a tree in which channels have this set as their next field, or one in which a name is refused: whether some
-- kinds fit the sets up to it.
abbrev pub FitsField : {A : Type 0} → Types → Column → Option Expression → KnownKinds A → KnownKinds A → Result (Unit {0}) Misfit → Type 0
FitsField types column set old new result =
    (raw above below : RawScript) (names : List RawName) (before rest : List RawDomain) (d : RawDomain) → raw ≡ above ++ RawChannels names (before ++ d ∷ rest) ∷ below → types.datatypes ≡ (types_of raw).datatypes → IsColumnOf column above names before →
    set ≡ set_expression above d → KnowsKinds raw (above ++ RawChannels names before ∷ []) old → Fits raw (above ++ RawChannels names (before ++ d ∷ []) ∷ []) new result
