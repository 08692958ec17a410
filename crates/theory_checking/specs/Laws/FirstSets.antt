-- Kinds for the sets of a tree's first declarations, and how their equations go on.
use Rattle.std.specs.Prelude.{◌≡◌, ◌↔◌, ℕ, ◌+◌, ◌≤◌, ◌<◌, List, [], ◌∷◌, ◌++◌, length, drop, slice_get, Some}
use Rattle.theory_syntax.specs.Types.{Types}
use Rattle.theory_semantics.specs.Kinds.Kind.{Kinds, BeginsInTurn}
use Rattle.theory_text.specs.Raw.{RawName, RawDomain, RawClause, RawDeclaration, RawDatatype, RawNametype, RawChannels, RawScript}
use Rattle.theory_checking.specs.Sets.{set_expression, nametypes_declared, clauses_declared, channels_declared, IsSetOf, nametype_sets, constructor_sets, channel_sets}
use Rattle.theory_checking.specs.Sites.{with_clause}
use Rattle.theory_checking.specs.Rules.{SomeFit}
use Rattle.theory_checking.specs.Inference.State.{KindEquation}
use Rattle.theory_checking.specs.Inference.Equations.{Ask, Numbering, kinds_under, IsBelow}
use Rattle.theory_checking.specs.Inference.Items.{behind_set, of_set, behind_copies, of_copies, AreNumbersFor}
use Rattle.theory_checking.specs.Inference.Sets.{FitFirstSets, IsBeginningOf, IsColumn}
use Rattle.theory_checking.specs.Laws.FittingKinds.{AskForSets}

-- the declarations above, and channels with these first fields
abbrev pub with_channels : RawScript → List RawName → List RawDomain → RawScript
with_channels above names ds = above ++ RawChannels names ds ∷ []

-- the equations, in which the numbers from n up to m are new, ask that kinds fit the sets so far
abbrev pub AskForFirstSets : Types → RawScript → Numbering → ℕ → List KindEquation → ℕ → Type 0
AskForFirstSets types so_far o n es m = Ask n es m (λ a. FitFirstSets types so_far (kinds_under a o))

-- with some numbers for the tree the equations ask for kinds of the sets so far
abbrev pub AreForFirstSets : Types → RawScript → RawScript → List KindEquation → Type 0
AreForFirstSets types raw so_far es =
    (o : Numbering) × (n : ℕ) × (m : ℕ) × AreNumbersFor raw n o × AskForFirstSets types so_far o n es m

-- and the declarations so far are a beginning of the tree
abbrev pub AreForABeginning : Types → RawScript → RawScript → List KindEquation → Type 0
AreForABeginning types raw so_far es = IsBeginningOf raw so_far × AreForFirstSets types raw so_far es

-- equations that ask for the sets so far, where these are all, ask for all sets
abbrev pub FirstSetsAreAllSets : Types → RawScript → Numbering → Type 0
FirstSetsAreAllSets types raw o = (n m : ℕ) (es : List KindEquation) →
    AreNumbersFor raw n o →
    AskForFirstSets types raw o n es m →
    AskForSets types raw o n es m

-- where some kinds fit a declaration's fields, some fit its first ones
abbrev pub FirstFieldsFit : Types → RawScript → Type 0
FirstFieldsFit types above = (names : List RawName) (ds more : List RawDomain) →
    SomeFit types (with_channels above names (ds ++ more)) →
    SomeFit types (with_channels above names ds)

-- and where some fit a datatype's clauses, some fit its first ones and the first fields of the last of these
abbrev pub FirstClausesFit : Types → RawScript → Type 0
FirstClausesFit types above = (name : RawName) (before rest : List RawClause) (constructor : RawName) (fields more : List RawDomain) →
    let whole : RawClause = record { name = constructor; fields = fields ++ more } in
    SomeFit types (above ++ RawDatatype name (before ++ whole ∷ rest) ∷ []) →
    SomeFit types (with_clause above name before constructor fields)

-- a channel with its first fields is the beginning of one with more
abbrev pub FirstFieldsAreABeginning : RawScript → RawScript → Type 0
FirstFieldsAreABeginning above below = (names : List RawName) (ds rest : List RawDomain) →
    IsBeginningOf (above ++ RawChannels names (ds ++ rest) ∷ below) (with_channels above names ds)

-- so is a datatype with its first clauses and the first fields of the last of these
abbrev pub FirstClausesAreABeginning : RawScript → RawScript → Type 0
FirstClausesAreABeginning above below = (name : RawName) (before rest : List RawClause) (constructor : RawName) (fields more : List RawDomain) →
    let whole : RawClause = record { name = constructor; fields = fields ++ more } in
    IsBeginningOf (above ++ RawDatatype name (before ++ whole ∷ rest) ∷ below) (with_clause above name before constructor fields)

-- ---- what comes with one more declaration, behind equations that ask for the sets above

-- with a nametype the equations of its set
abbrev pub NametypesAskForTheirSet : Types → Numbering → Type 0
NametypesAskForTheirSet types o =
    (above : RawScript) (n m x : ℕ) (es : List KindEquation) (name : RawName) (domain : RawDomain) →
    IsBelow n o →
    slice_get o.nametypes (length (nametype_sets above)) ≡ Some x →
    AskForFirstSets types above o n es m →
    let e = set_expression above domain in
    AskForFirstSets types (above ++ RawNametype name domain ∷ []) o n (es ++ of_set types o m e x) (behind_set m e)

-- with one more clause of a datatype no equations before those of its fields
abbrev pub ClausesAskForNothing : Types → Numbering → Type 0
ClausesAskForNothing types o = (above : RawScript) (n m : ℕ) (es : List KindEquation) (name : RawName) (before : List RawClause) (constructor : RawName) →
    length (constructor_sets above) + length before < length o.constructors →
    AskForFirstSets types (above ++ RawDatatype name before ∷ []) o n es m →
    AskForFirstSets types (with_clause above name before constructor []) o n es m

-- with one more field of it those of its set
abbrev pub ClauseFieldsAskForTheirSet : Types → Numbering → Type 0
ClauseFieldsAskForTheirSet types o =
    (above : RawScript) (n m x : ℕ) (es : List KindEquation)
    (name : RawName) (before : List RawClause) (constructor : RawName) (fields : List RawDomain) (d : RawDomain) (row : List ℕ) →
    IsBelow n o →
    slice_get o.constructors (length (constructor_sets above) + length before) ≡ Some row →
    slice_get row (length fields) ≡ Some x →
    AskForFirstSets types (with_clause above name before constructor fields) o n es m →
    let e = set_expression above d in
    AskForFirstSets types (with_clause above name before constructor (fields ++ d ∷ [])) o n (es ++ of_set types o m e x) (behind_set m e)

-- with one more field of channels those of its set, once for each channel
abbrev pub FieldsAskForTheirSet : Types → Numbering → Type 0
FieldsAskForTheirSet types o =
    (above : RawScript) (n m : ℕ) (es : List KindEquation)
    (names : List RawName) (before : List RawDomain) (d : RawDomain) (ms : List ℕ) →
    IsBelow n o →
    length ms ≡ length names →
    IsColumn (length before) ms (drop (length (channel_sets above)) o.channels) →
    AskForFirstSets types (with_channels above names before) o n es m →
    let e = set_expression above d in
    AskForFirstSets types (with_channels above names (before ++ d ∷ [])) o n (es ++ of_copies types o m e ms) (behind_copies m e ms)

-- with channels no equations before those of their fields
abbrev pub HeadsAskForNothing : Types → Numbering → Type 0
HeadsAskForNothing types o = (above : RawScript) (n m : ℕ) (es : List KindEquation) (names : List RawName) →
    length (channel_sets above) + length names ≤ length o.channels →
    AskForFirstSets types above o n es m →
    AskForFirstSets types (with_channels above names []) o n es m

-- and none with what declares no sets
abbrev pub OthersAskForNothing : Types → Numbering → Type 0
OthersAskForNothing types o = (above : RawScript) (n m : ℕ) (es : List KindEquation) (d : RawDeclaration) →
    nametypes_declared above d ≡ [] →
    clauses_declared above d ≡ [] →
    channels_declared above d ≡ [] →
    AskForFirstSets types above o n es m →
    AskForFirstSets types (above ++ d ∷ []) o n es m

-- kinds fit the sets of a declaration, behind as many as there are above it
abbrev pub FitItsSets : Types → RawScript → RawDeclaration → Kinds → Type 0
FitItsSets types above d kinds =
    BeginsInTurn (IsSetOf types kinds) (nametypes_declared above d) (drop (length (nametype_sets above)) kinds.nametypes)
    × BeginsInTurn (BeginsInTurn (IsSetOf types kinds)) (clauses_declared above d) (drop (length (constructor_sets above)) kinds.constructors)
    × BeginsInTurn (BeginsInTurn (IsSetOf types kinds)) (channels_declared above d) (drop (length (channel_sets above)) kinds.channels)

-- kinds fit the sets up to a declaration just where they fit those above it and its own
abbrev pub FirstSetsGoOn : Types → RawScript → RawDeclaration → Type 0
FirstSetsGoOn types above d = (kinds : Kinds) →
    FitFirstSets types (above ++ d ∷ []) kinds ↔ (FitFirstSets types above kinds × FitItsSets types above d kinds)
