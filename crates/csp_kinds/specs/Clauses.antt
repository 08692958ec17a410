-- The clauses of a datatype.
use Rattle.std.specs.Prelude.{◌≡◌, Bool, true, List, [], ◌∷◌, ◌++◌, map, None}
use Rattle.theory_text.specs.Raw.{RawName, RawClause, RawDatatype, RawScript}
use Rattle.theory_checking.specs.Resolving.{every}
use Rattle.theory_checking.specs.Sets.{clause_sets, datatypes_of, field_members_with, members_above}
use Rattle.theory_checking.specs.Sites.{in_clauses}
use Rattle.csp_names.specs.Scopes.{known_sets}
use Rattle.csp_kinds.specs.declared.clauses.Clauses.{Clauses}
use Rattle.csp_kinds.specs.declared.fit.Fit.{Fit}
use Rattle.csp_kinds.specs.declared.looking.Above.{Above}
use Rattle.csp_kinds.specs.Faults.{IsFaultOf}
use Rattle.csp_kinds.specs.Fit.{IsFitOf}
use Rattle.csp_kinds.specs.Looking.{fault_in, StandsAbove}

-- They are the clauses of this datatype so far, and what is known of kinds is known of their sets too, where some kinds
-- fitted the sets above or not.
pub record AreClausesOf {A : Type 0} (raw above : RawScript) (name : RawName) (clauses : List RawClause) (fitted : Bool) (all : Clauses A) (fit : Fit A) : Type 0 where
  pub known : IsFitOf raw (above ++ RawDatatype name clauses ∷ []) fit
  pub sets : map known_sets all.sets.items ≡ map (every (field_members_with (datatypes_of raw) (members_above raw above))) (map (clause_sets above) clauses)
  pub fault : IsFaultOf (in_clauses raw above name [] clauses) (fault_in all.fault)
  pub fine : fault_in all.fault ≡ None → fitted ≡ true → fit.some ≡ true
  pub before : fit.some ≡ true → fitted ≡ true

-- The next declaration of some tree declares a datatype with these clauses.
pub record IsNextDatatype {A : Type 0} (s : Above A) (fit : Fit A) (clauses : List RawClause) : Type 0 where
  pub raw : RawScript
  pub above : RawScript
  pub below : RawScript
  pub name : RawName
  pub stands : raw ≡ above ++ RawDatatype name clauses ∷ below
  pub over : StandsAbove raw above s
  pub known : IsFitOf raw above fit

-- The clauses are those of that datatype.
abbrev pub LooksAtClauses : {A : Type 0} → Above A → Fit A → List RawClause → Fit A → Clauses A → Type 0
LooksAtClauses s old clauses new all = (next : IsNextDatatype s old clauses) → AreClausesOf next.raw next.above next.name clauses old.some all new
