-- The sets of nametypes and of the fields of constructors and channels: their expressions, their kinds and their members.
use Rattle.std.specs.Prelude.{ℕ, ◌*◌, ◌+◌, Bool, ◌&&◌, cond, List, [], ◌∷◌, ◌++◌, length, map, flat_map, filter_map, replicate, slice_get, Option, Some, None, is_some, option_and_then, unwrap_or, IfSome}
use Rattle.std.specs.List.{list_all}
use Rattle.std.specs.Result.{result_ok}
use Rattle.theory_syntax.specs.Value.{Value, Integer, Truth, Constructor, Sequence, Set, Values, no_values, value_and}
use Rattle.theory_syntax.specs.Expression.{Expression, Literal, Name, Apply, Combine, SequenceOf, SetOf, Range, Booleans, Datatype, Nametype, ConstructorOf, Expressions, no_expressions, expression_and}
use Rattle.theory_syntax.specs.Types.{Types}
use Rattle.theory_semantics.specs.Meaning.Events.{elements}
use Rattle.theory_semantics.specs.Kinds.Kind.{Kind, SetKind, Kinds, InTurn}
use Rattle.theory_semantics.specs.Kinds.Expressions.{HasKind}
use Rattle.theory_text.specs.Raw.{RawDomain, RawClause, RawDeclaration, RawDatatype, RawNametype, RawChannels, RawScript}
use Rattle.theory_checking.specs.Names.{ConstructorName, clause_names, names_of, number_in, spellings, environment_above}
use Rattle.theory_checking.specs.Resolving.{every, expression_of}

-- what f makes of each declaration and those above it, in the order of the text
abbrev pub behind_each : {A : Type 0} → (RawScript → RawDeclaration → List A) → RawScript → RawScript → List A
behind_each f above [] = []
behind_each f above (d ∷ ds) = f above d ++ behind_each f (above ++ d ∷ []) ds

abbrev pub in_order : {A : Type 0} → (RawScript → RawDeclaration → List A) → RawScript → List A
in_order f raw = behind_each f [] raw

-- The expression of a set, where each name in it is declared above and fits.
abbrev pub set_expression : RawScript → RawDomain → Option Expression
set_expression above domain = expression_of (environment_above above) domain.set

-- the set of each nametype, and the sets of the fields of each constructor and each channel
abbrev pub nametypes_declared : RawScript → RawDeclaration → List (Option Expression)
nametypes_declared above (RawNametype name domain) = set_expression above domain ∷ []
nametypes_declared above _ = []

abbrev pub clause_sets : RawScript → RawClause → List (Option Expression)
clause_sets above clause = map (set_expression above) clause.fields

abbrev pub clauses_declared : RawScript → RawDeclaration → List (List (Option Expression))
clauses_declared above (RawDatatype name clauses) = map (clause_sets above) clauses
clauses_declared above _ = []

abbrev pub channels_declared : RawScript → RawDeclaration → List (List (Option Expression))
channels_declared above (RawChannels names domains) = replicate (length names) (map (set_expression above) domains)
channels_declared above _ = []

abbrev pub nametype_sets : RawScript → List (Option Expression)
nametype_sets raw = in_order nametypes_declared raw

abbrev pub constructor_sets : RawScript → List (List (Option Expression))
constructor_sets raw = in_order clauses_declared raw

abbrev pub channel_sets : RawScript → List (List (Option Expression))
channel_sets raw = in_order channels_declared raw

-- the constructors of each datatype, by their numbers
abbrev pub datatype_of : RawScript → RawDeclaration → List (List ℕ)
datatype_of raw (RawDatatype name clauses) = filter_map (number_in (names_of ConstructorName raw)) (spellings (clause_names clauses)) ∷ []
datatype_of raw _ = []

abbrev pub datatypes_of : RawScript → List (List ℕ)
datatypes_of raw = flat_map (datatype_of raw) raw

-- the nametypes that an expression uses
abbrev mutual
  pub nametypes_in : Expression → List ℕ
  nametypes_in (Literal v) = []
  nametypes_in (Name n) = []
  nametypes_in (Apply op e) = nametypes_in e
  nametypes_in (Combine op e f) = nametypes_in e ++ nametypes_in f
  nametypes_in (SequenceOf es) = nametypes_in_all es
  nametypes_in (SetOf es) = nametypes_in_all es
  nametypes_in (Range e f) = nametypes_in e ++ nametypes_in f
  nametypes_in Booleans = []
  nametypes_in (Datatype d) = []
  nametypes_in (Nametype n) = n ∷ []
  nametypes_in (ConstructorOf k es) = nametypes_in_all es

  pub nametypes_in_all : Expressions → List ℕ
  nametypes_in_all no_expressions = []
  nametypes_in_all (expression_and e es) = nametypes_in e ++ nametypes_in_all es

-- the constructors of a value
abbrev mutual
  pub constructors_of : Value → List ℕ
  constructors_of (Integer z) = []
  constructors_of (Truth b) = []
  constructors_of (Constructor k vs) = k ∷ constructors_of_all vs
  constructors_of (Sequence vs) = constructors_of_all vs
  constructors_of (Set vs) = constructors_of_all vs

  pub constructors_of_all : Values → List ℕ
  constructors_of_all no_values = []
  constructors_of_all (value_and v vs) = constructors_of v ++ constructors_of_all vs

-- and those that an expression uses
abbrev mutual
  pub constructors_in : Expression → List ℕ
  constructors_in (Literal v) = constructors_of v
  constructors_in (Name n) = []
  constructors_in (Apply op e) = constructors_in e
  constructors_in (Combine op e f) = constructors_in e ++ constructors_in f
  constructors_in (SequenceOf es) = constructors_in_all es
  constructors_in (SetOf es) = constructors_in_all es
  constructors_in (Range e f) = constructors_in e ++ constructors_in f
  constructors_in Booleans = []
  constructors_in (Datatype d) = []
  constructors_in (Nametype n) = []
  constructors_in (ConstructorOf k es) = k ∷ constructors_in_all es

  pub constructors_in_all : Expressions → List ℕ
  constructors_in_all no_expressions = []
  constructors_in_all (expression_and e es) = constructors_in e ++ constructors_in_all es

-- the datatypes that it uses
abbrev mutual
  pub datatypes_in : Expression → List ℕ
  datatypes_in (Literal v) = []
  datatypes_in (Name n) = []
  datatypes_in (Apply op e) = datatypes_in e
  datatypes_in (Combine op e f) = datatypes_in e ++ datatypes_in f
  datatypes_in (SequenceOf es) = datatypes_in_all es
  datatypes_in (SetOf es) = datatypes_in_all es
  datatypes_in (Range e f) = datatypes_in e ++ datatypes_in f
  datatypes_in Booleans = []
  datatypes_in (Datatype d) = d ∷ []
  datatypes_in (Nametype n) = []
  datatypes_in (ConstructorOf k es) = datatypes_in_all es

  pub datatypes_in_all : Expressions → List ℕ
  datatypes_in_all no_expressions = []
  datatypes_in_all (expression_and e es) = datatypes_in e ++ datatypes_in_all es

-- The members of the nametypes so far, and of the sets of the fields of the constructors so far. There are none for a
-- nametype whose set has no value, and for a constructor of which some set has no member.
pub record Members : Type 0 where
  pub nametypes : List (Option (List Value))
  pub constructors : List (Option (List (List Value)))

abbrev pub no_members : Members
no_members = record { nametypes = []; constructors = [] }

abbrev pub is_there : {A : Type 0} → List (Option A) → ℕ → Bool
is_there os n = is_some (unwrap_or (slice_get os n) None)

-- all constructors of a datatype are there
abbrev pub has_constructors : List (List ℕ) → Members → ℕ → Bool
has_constructors datatypes ms d = list_all (is_there ms.constructors) (unwrap_or (slice_get datatypes d) [])

-- all that the expression uses is there
abbrev pub has_members : List (List ℕ) → Members → Expression → Bool
has_members datatypes ms e =
    list_all (is_there ms.nametypes) (nametypes_in e) && (list_all (is_there ms.constructors) (constructors_in e) && list_all (has_constructors datatypes ms) (datatypes_in e))

abbrev pub types_with : List (List ℕ) → Members → Types
types_with datatypes ms = record {
  datatypes = datatypes;
  nametypes = map (λ m. unwrap_or m []) ms.nametypes;
  constructors = map (λ m. unwrap_or m []) ms.constructors;
}

-- The members of a set over these, rising. A set that uses one that is not there has no value.
abbrev pub members_with : List (List ℕ) → Members → Expression → Option (List Value)
members_with datatypes ms e = cond (has_members datatypes ms e) (result_ok (elements (types_with datatypes ms) e)) None

-- a field set has a member
abbrev pub with_some : List Value → Option (List Value)
with_some [] = None
with_some (v ∷ vs) = Some (v ∷ vs)

abbrev pub field_members_with : List (List ℕ) → Members → Option Expression → Option (List Value)
field_members_with datatypes ms e = option_and_then with_some (option_and_then (members_with datatypes ms) e)

-- A declaration with sets, by the sets: of a nametype, or of the fields of each constructor of a datatype.
pub data TypeItem : Type 0 where
  NametypeItem : (set : Option Expression) → TypeItem
  DatatypeItem : (clauses : List (List (Option Expression))) → TypeItem

abbrev pub types_declared : RawScript → RawDeclaration → List TypeItem
types_declared above (RawNametype name domain) = NametypeItem (set_expression above domain) ∷ []
types_declared above (RawDatatype name clauses) = DatatypeItem (clauses_declared above (RawDatatype name clauses)) ∷ []
types_declared above _ = []

abbrev pub with_nametype : Option (List Value) → Members → Members
with_nametype m ms = record { nametypes = ms.nametypes ++ m ∷ []; constructors = ms.constructors }

abbrev pub with_constructors : List (Option (List (List Value))) → Members → Members
with_constructors cs ms = record { nametypes = ms.nametypes; constructors = ms.constructors ++ cs }

-- the members of sets in turn, each over those of the declarations before its own
abbrev pub with_members : List (List ℕ) → Members → List TypeItem → Members
with_members datatypes ms [] = ms
with_members datatypes ms (NametypeItem e ∷ xs) = with_members datatypes (with_nametype (option_and_then (members_with datatypes ms) e) ms) xs
with_members datatypes ms (DatatypeItem cs ∷ xs) = with_members datatypes (with_constructors (map (every (field_members_with datatypes ms)) cs) ms) xs

-- the members of the sets of some declarations of a script
abbrev pub members_above : RawScript → RawScript → Members
members_above raw above = with_members (datatypes_of raw) no_members (in_order types_declared above)

abbrev pub all_members : RawScript → Members
all_members raw = members_above raw raw

-- those of each nametype, and of the sets of each constructor, by its number, where each has some
abbrev pub nametype_members : RawScript → List (Option (List Value))
nametype_members raw = (all_members raw).nametypes

abbrev pub constructor_members : RawScript → List (Option (List (List Value)))
constructor_members raw = (all_members raw).constructors

-- the types that declarations declare
abbrev pub types_of : RawScript → Types
types_of raw = types_with (datatypes_of raw) (all_members raw)

abbrev pub field_members : RawScript → Option Expression → Option (List Value)
field_members raw e = field_members_with (datatypes_of raw) (all_members raw) e

-- the field sets of each channel, by their members, where each has some
abbrev pub channel_members : RawScript → List (Option (List (List Value)))
channel_members raw = map (every (field_members raw)) (channel_sets raw)

-- The expression is a set of members of this kind; a set in which a name is refused can have any.
abbrev pub IsSetOf : Types → Kinds → Option Expression → Kind → Type 0
IsSetOf types kinds e k = IfSome e (λ set. HasKind types kinds [] set (SetKind k))

-- The kinds fit the sets of these declarations, over the types of the script.
pub record FitSets (types : Types) (so_far : RawScript) (kinds : Kinds) : Type 0 where
  pub nametypes : InTurn (IsSetOf types kinds) (nametype_sets so_far) kinds.nametypes
  pub constructors : InTurn (InTurn (IsSetOf types kinds)) (constructor_sets so_far) kinds.constructors
  pub channels : InTurn (InTurn (IsSetOf types kinds)) (channel_sets so_far) kinds.channels

-- the number of events of a channel, and of several, of which those whose field sets are not known do not count
abbrev pub product_of_sizes : List (List Value) → ℕ
product_of_sizes [] = 1
product_of_sizes (s ∷ sets) = length s * product_of_sizes sets

abbrev pub number_of_events : List (Option (List (List Value))) → ℕ
number_of_events [] = 0
number_of_events (None ∷ cs) = number_of_events cs
number_of_events (Some sets ∷ cs) = product_of_sizes sets + number_of_events cs
