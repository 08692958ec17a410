-- Whether some kinds fit the sets so far.
use Rattle.std.specs.Prelude.{◌≡◌, ℕ, ◌+◌, true, List, [], ◌∷◌, ◌++◌, length, MatchBool, Option}
use Rattle.theory_syntax.specs.Expression.{Expression}
use Rattle.theory_syntax.specs.Types.{Types}
use Rattle.theory_text.specs.Raw.{RawName, RawDomain, RawClause, RawDatatype, RawNametype, RawChannels, RawScript}
use Rattle.theory_checking.specs.Sets.{types_of, set_expression, nametype_sets, constructor_sets}
use Rattle.theory_checking.specs.Sites.{with_clause}
use Rattle.theory_checking.specs.Rules.{SomeFit}
use Rattle.theory_checking.specs.Inference.State.{IsResolved}
use Rattle.csp_inference.specs.State.{state_in}
use Rattle.csp_inference.specs.declared.fitted_sets.Column.{Column}
use Rattle.csp_inference.specs.KnownKinds.{IsColumnOf, KnowsKinds}
use Rattle.csp_kinds.specs.declared.fit.Fit.{Fit}

-- One more set can be taken up.
abbrev pub IsOpen : {A : Type 0} → Fit A → Type 0
IsOpen fit = fit.some ≡ true → IsResolved (state_in fit.known.equations.state)

-- Some kinds fit the sets so far, and they are known; or none do.
abbrev pub IsFitOf : {A : Type 0} → RawScript → RawScript → Fit A → Type 0
IsFitOf raw so_far fit = MatchBool fit.some (KnowsKinds raw so_far fit.known) (¬ (SomeFit (types_of raw) so_far))

-- The nametype with so many others above it is taken up with its set, or one in which a name is refused.
pub record TakesNametype {A : Type 0} (types : Types) (nametype : ℕ) (set : Option Expression) (old new : Fit A) : Type 0 where
  pub fit : (raw above below : RawScript) (name : RawName) (domain : RawDomain) → raw ≡ above ++ RawNametype name domain ∷ below → types.datatypes ≡ (types_of raw).datatypes → nametype ≡ length (nametype_sets above) →
      set ≡ set_expression above domain → IsFitOf raw above old → IsFitOf raw (above ++ RawNametype name domain ∷ []) new
  pub before : new.some ≡ true → old.some ≡ true

-- The next field of a constructor is taken up with its set, or one in which a name is refused.
pub record TakesClauseField {A : Type 0} (types : Types) (constructor field : ℕ) (set : Option Expression) (old new : Fit A) : Type 0 where
  pub fit : (raw above below : RawScript) (name : RawName) (clauses more : List RawClause) (c : RawName) (before rest : List RawDomain) (d : RawDomain) → raw ≡ above ++ RawDatatype name (clauses ++ record { name = c; fields = before ++ d ∷ rest } ∷ more) ∷ below →
      types.datatypes ≡ (types_of raw).datatypes → constructor ≡ length (constructor_sets above) + length clauses → field ≡ length before → set ≡ set_expression above d →
      IsFitOf raw (with_clause above name clauses c before) old → IsFitOf raw (with_clause above name clauses c (before ++ d ∷ [])) new
  pub before : new.some ≡ true → old.some ≡ true

-- The next field of channels is taken up with its set, or one in which a name is refused.
pub record TakesField {A : Type 0} (types : Types) (column : Column) (set : Option Expression) (old new : Fit A) : Type 0 where
  pub fit : (raw above below : RawScript) (names : List RawName) (before rest : List RawDomain) (d : RawDomain) → raw ≡ above ++ RawChannels names (before ++ d ∷ rest) ∷ below → types.datatypes ≡ (types_of raw).datatypes → IsColumnOf column above names before →
      set ≡ set_expression above d → IsFitOf raw (above ++ RawChannels names before ∷ []) old → IsFitOf raw (above ++ RawChannels names (before ++ d ∷ []) ∷ []) new
  pub before : new.some ≡ true → old.some ≡ true
