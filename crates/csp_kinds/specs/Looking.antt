-- What looking at a set answers.
use Rattle.std.specs.Prelude.{◌≡◌, ℕ, Bool, false, ◌&&◌, List, length, map, slice_get, Option, Some, None, is_some, option_map, option_and_then, unwrap_or, ◌++◌, []}
use Rattle.std.specs.List.{list_all}
use Rattle.theory_syntax.specs.Value.{Value}
use Rattle.theory_syntax.specs.Expression as pure
use Rattle.theory_text.specs.Place as text
use Rattle.theory_text.specs.Raw.{RawDomain, RawExpression, RawScript}
use Rattle.csp_lex.specs.Places.{place_of}
use Rattle.theory_checking.specs.Names.{environment_above}
use Rattle.theory_checking.specs.Sets.{set_expression, datatypes_of, nametypes_in, nametypes_in_all, constructors_in, constructors_in_all, datatypes_in, datatypes_in_all, Members, members_above, members_with, types_with, with_constructors, with_nametype}
use Rattle.theory_checking.specs.Sites.{in_expression}
use Rattle.theory_checking.specs.Faults as checking
use Rattle.theory_checking.specs.Rules.{all_declared}
use Rattle.csp_value.specs.declared.set.SetOf.{SetOf}
use Rattle.csp_expression.specs.Evaluation.{members_listed, table_of}
use Rattle.csp_expression.specs.Expression.{expression_of}
use Rattle.csp_names.specs.FirstPass.{AreNamesOf}
use Rattle.csp_names.specs.Refusals.{fault_of}
use Rattle.csp_kinds.specs.declared.faults.SetFault.{SetFault}
use Rattle.csp_kinds.specs.declared.looking.Above.{Above}
use Rattle.csp_kinds.specs.declared.looking.LookedSet.{LookedSet}
use Rattle.csp_kinds.specs.declared.looking.LookedSet.TheVariants as looked
use Rattle.csp_kinds.specs.declared.table.Table.{Table}
use Rattle.csp_kinds.specs.Faults.{IsRead}

-- ---- faults

abbrev pub set_fault : SetFault → checking.KindFault × text.Place
set_fault f = (fault_of f.fault, place_of f.place)

abbrev pub fault_in : Option SetFault → Option (checking.KindFault × text.Place)
fault_in f = option_map set_fault f

-- ---- types

-- the nametype has a value
abbrev pub is_valued : List Bool → ℕ → Bool
is_valued valued n = unwrap_or (slice_get valued n) false

-- the members that are found, if there are some
abbrev pub listed_members : {A : Type 0} → Option (SetOf A) → Option (List Value)
listed_members found = option_map members_listed found

-- The table has these datatypes, and nametypes and constructors with these members.
pub record IsTableOf {A : Type 0} (dts : List (List ℕ)) (ms : Members) (table : Table A) : Type 0 where
  pub types : table_of table.types ≡ types_with dts ms
  pub valued : table.valued.items ≡ map is_some ms.nametypes
  pub filled : table.filled.items ≡ map is_some ms.constructors

-- each constructor of the datatype has values for its fields
abbrev pub has_all_constructors : {A : Type 0} → Table A → ℕ → Bool
has_all_constructors table d = list_all (is_valued table.filled.items) (unwrap_or (slice_get (table_of table.types).datatypes d) [])

-- each nametype that the expression uses has a value, and each constructor values for its fields
abbrev pub has_all : {A : Type 0} → Table A → pure.Expression → Bool
has_all table e = list_all (is_valued table.valued.items) (nametypes_in e) && (list_all (is_valued table.filled.items) (constructors_in e) && list_all (has_all_constructors table) (datatypes_in e))

abbrev pub has_all_in : {A : Type 0} → Table A → pure.Expressions → Bool
has_all_in table es = list_all (is_valued table.valued.items) (nametypes_in_all es) && (list_all (is_valued table.filled.items) (constructors_in_all es) && list_all (has_all_constructors table) (datatypes_in_all es))

-- What is found are the members of the expression over the table.
abbrev pub HasMembers : {A : Type 0} → Table A → pure.Expression → Option (SetOf A) → Type 0
HasMembers table e found = (dts : List (List ℕ)) (ms : Members) → IsTableOf dts ms table → listed_members found ≡ members_with dts ms e

-- The table has one nametype more, with these members.
abbrev pub AddsMembers : {A : Type 0} → Table A → Option (List Value) → Table A → Type 0
AddsMembers old members new = (dts : List (List ℕ)) (ms : Members) → IsTableOf dts ms old → IsTableOf dts (with_nametype members ms) new

-- The table has some constructors more, with these members.
abbrev pub AddsConstructors : {A : Type 0} → Table A → List (Option (List (List Value))) → Table A → Type 0
AddsConstructors old members new = (dts : List (List ℕ)) (ms : Members) → IsTableOf dts ms old → IsTableOf dts (with_constructors members ms) new

-- ---- what stands above a set

-- These are the names and types that the declarations above declare.
pub record StandsAbove {A : Type 0} (raw above : RawScript) (s : Above A) : Type 0 where
  pub names : AreNamesOf s.names.now raw
  pub visible : s.visible ≡ length (all_declared above)
  pub table : IsTableOf (datatypes_of raw) (members_above raw above) s.table.now

-- ---- sets

abbrev pub looked_expression : {A : Type 0} → LookedSet A → Option pure.Expression
looked_expression (looked.Set set members) = Some (expression_of set)
looked_expression (looked.Refused f) = None

abbrev pub looked_members : {A : Type 0} → LookedSet A → Option (List Value)
looked_members (looked.Set set members) = listed_members members
looked_members (looked.Refused f) = None

abbrev pub looked_refusal : {A : Type 0} → LookedSet A → Option (checking.KindFault × text.Place)
looked_refusal (looked.Set set members) = None
looked_refusal (looked.Refused f) = Some (set_fault f)

-- It is the tree's set below those declarations: its expression, its members over the types above it, or the first
-- fault of a name in it.
pub record IsLookedAt {A : Type 0} (raw above : RawScript) (d : RawDomain) (l : LookedSet A) : Type 0 where
  pub expression : looked_expression l ≡ set_expression above d
  pub read : IsRead (set_expression above d) (in_expression (environment_above above) d.set) (looked_refusal l)
  pub members : looked_members l ≡ option_and_then (members_with (datatypes_of raw) (members_above raw above)) (set_expression above d)

-- The set that is written so is looked at, wherever it stands.
abbrev pub LooksAt : {A : Type 0} → Above A → RawExpression → LookedSet A → Type 0
LooksAt s e l = (raw above below : RawScript) (d : RawDomain) → StandsAbove raw above s → raw ≡ above ++ below → d.set ≡ e → IsLookedAt raw above d l
