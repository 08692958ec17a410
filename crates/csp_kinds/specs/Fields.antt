-- The fields of a constructor, or of channels that are declared together.
use Rattle.std.specs.Prelude.{◌≡◌, ℕ, ◌+◌, is_some, option_map, option_and_then, Bool, true, false, cond, List, [], ◌∷◌, ◌++◌, length, map, Option, Some, None}
use Rattle.std.specs.Option.{option_or}
use Rattle.theory_syntax.specs.Value.{Value, sorted_values}
use Rattle.theory_text.specs.Place.{Place}
use Rattle.theory_text.specs.Raw.{RawName, RawDomain, RawClause, RawDatatype, RawChannels, RawScript}
use Rattle.theory_checking.specs.Resolving.{every}
use Rattle.theory_checking.specs.Sets.{set_expression, channel_sets, constructor_sets, datatypes_of, field_members, field_members_with, members_above, with_some}
use Rattle.theory_checking.specs.Sites.{in_clause_sets, in_field_sets, with_clause}
use Rattle.csp_value.specs.declared.field_set.FieldSet.{FieldSet}
use Rattle.csp_value.specs.Fields.{field_values}
use Rattle.csp_inference.specs.declared.fitted_sets.Column.{Column}
use Rattle.csp_inference.specs.KnownKinds.{IsColumnOf}
use Rattle.csp_kinds.specs.declared.fields.Fields.{Fields}
use Rattle.csp_kinds.specs.declared.fit.Fit.{Fit}
use Rattle.csp_kinds.specs.declared.looking.Above.{Above}
use Rattle.csp_kinds.specs.declared.looking.LookedSet.{LookedSet}
use Rattle.csp_kinds.specs.Faults.{IsFaultOf, fault_of_set}
use Rattle.csp_kinds.specs.Fit.{IsFitOf}
use Rattle.csp_kinds.specs.Looking.{fault_in, looked_members, looked_refusal, StandsAbove}

-- the field sets, if each field has one
abbrev pub known_fields : {A : Type 0} → Fields A → Option (List (List Value))
known_fields fields = cond fields.complete (Some (map field_values fields.sets.items)) None

-- The next declaration of some tree declares so many channels with these fields.
pub record IsNextOf {A : Type 0} (s : Above A) (fit : Fit A) (first channels : ℕ) (domains : List RawDomain) : Type 0 where
  pub raw : RawScript
  pub above : RawScript
  pub below : RawScript
  pub names : List RawName
  pub stands : raw ≡ above ++ RawChannels names domains ∷ below
  pub over : StandsAbove raw above s
  pub known : IsFitOf raw above fit
  pub number : first ≡ length (channel_sets above)
  pub counted : channels ≡ length names

-- They are the fields of these channels so far, and what is known of kinds is known of their sets too, where some kinds
-- fitted the sets above or not.
pub record AreFieldsOf {A : Type 0} (raw above : RawScript) (names : List RawName) (domains : List RawDomain) (fitted : Bool) (fields : Fields A) (fit : Fit A) : Type 0 where
  pub known : IsFitOf raw (above ++ RawChannels names domains ∷ []) fit
  pub sets : known_fields fields ≡ every (field_members raw) (map (set_expression above) domains)
  pub fault : IsFaultOf (in_field_sets raw above names [] domains) (fault_in fields.fault)
  pub fine : fault_in fields.fault ≡ None → fitted ≡ true → fit.some ≡ true
  pub before : fit.some ≡ true → fitted ≡ true

-- One field more is looked at.
abbrev pub AddsField : {A : Type 0} → Above A → Column → RawDomain → Fields A → Fit A → Fields A → Fit A → Type 0
AddsField s column d old old_fit new new_fit =
    (raw above below : RawScript) (names : List RawName) (before rest : List RawDomain) (fitted : Bool) → raw ≡ above ++ RawChannels names (before ++ d ∷ rest) ∷ below → StandsAbove raw above s → IsColumnOf column above names before →
    AreFieldsOf raw above names before fitted old old_fit → AreFieldsOf raw above names (before ++ d ∷ []) fitted new new_fit

-- It has this set more, or is not complete.
abbrev pub Pushes : {A : Type 0} → Option (FieldSet A) → Fields A → Fields A → Type 0
Pushes (Some x) old new = (new.sets.items ≡ old.sets.items ++ x ∷ []) × (new.complete ≡ old.complete)
Pushes None old new = new.complete ≡ false

-- The fields are those of the next declaration.
abbrev pub LooksAtFields : {A : Type 0} → Above A → Fit A → ℕ → ℕ → List RawDomain → Fit A → Fields A → Type 0
LooksAtFields s old first channels domains new fields =
    (next : IsNextOf s old first channels domains) → AreFieldsOf next.raw next.above next.names domains old.some fields new

-- The set that was looked at, whose first token is at the place, is taken up as that of one field more.
pub record TakesSet {A : Type 0} (l : LookedSet A) (place : Place) (fits : Bool) (old new : Fields A) : Type 0 where
  pub set : Option (FieldSet A)
  pub is : option_map field_values set ≡ option_map sorted_values (option_and_then with_some (looked_members l))
  pub pushed : Pushes set old new
  pub fault : fault_in new.fault ≡ option_or (fault_in old.fault) (fault_of_set (looked_refusal l) place fits (is_some set))

-- ---- the fields of a constructor

-- They are the fields of this constructor so far, and what is known of kinds is known of their sets too, where some
-- kinds fitted the sets before or not.
pub record AreFieldsOfClause {A : Type 0} (raw above : RawScript) (name : RawName) (clauses : List RawClause) (c : RawName) (domains : List RawDomain) (fitted : Bool) (fields : Fields A) (fit : Fit A) : Type 0 where
  pub known : IsFitOf raw (with_clause above name clauses c domains) fit
  pub sets : known_fields fields ≡ every (field_members_with (datatypes_of raw) (members_above raw above)) (map (set_expression above) domains)
  pub fault : IsFaultOf (in_clause_sets raw above name clauses c [] domains) (fault_in fields.fault)
  pub fine : fault_in fields.fault ≡ None → fitted ≡ true → fit.some ≡ true
  pub before : fit.some ≡ true → fitted ≡ true

-- One field more is looked at.
abbrev pub AddsClauseField : {A : Type 0} → Above A → ℕ → ℕ → RawDomain → Fields A → Fit A → Fields A → Fit A → Type 0
AddsClauseField s constructor field d old old_fit new new_fit =
    (raw above below : RawScript) (name : RawName) (clauses more : List RawClause) (c : RawName) (before rest : List RawDomain) (fitted : Bool) → raw ≡ above ++ RawDatatype name (clauses ++ record { name = c; fields = before ++ d ∷ rest } ∷ more) ∷ below →
    StandsAbove raw above s → constructor ≡ length (constructor_sets above) + length clauses → field ≡ length before → AreFieldsOfClause raw above name clauses c before fitted old old_fit →
    AreFieldsOfClause raw above name clauses c (before ++ d ∷ []) fitted new new_fit

-- The next declaration of some tree declares a datatype, which has a constructor with these fields behind so many others.
pub record IsNextClause {A : Type 0} (s : Above A) (fit : Fit A) (constructor : ℕ) (domains : List RawDomain) : Type 0 where
  pub raw : RawScript
  pub above : RawScript
  pub below : RawScript
  pub name : RawName
  pub clauses : List RawClause
  pub more : List RawClause
  pub c : RawName
  pub stands : raw ≡ above ++ RawDatatype name (clauses ++ record { name = c; fields = domains } ∷ more) ∷ below
  pub over : StandsAbove raw above s
  pub known : IsFitOf raw (with_clause above name clauses c []) fit
  pub number : constructor ≡ length (constructor_sets above) + length clauses

-- The fields are those of that constructor.
abbrev pub LooksAtClause : {A : Type 0} → Above A → Fit A → ℕ → List RawDomain → Fit A → Fields A → Type 0
LooksAtClause s old constructor domains new fields =
    (next : IsNextClause s old constructor domains) → AreFieldsOfClause next.raw next.above next.name next.clauses next.c domains old.some fields new
