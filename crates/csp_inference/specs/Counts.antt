-- How many parts of a tree have kinds.
use Rattle.std.specs.Prelude.{◌≡◌, ℕ, List, ◌++◌, length, map, flat_map}
use Rattle.theory_text.specs.Raw.{RawClause, RawDeclaration, RawNametype, RawScript}
use Rattle.theory_checking.specs.ConstructorRows.{constructor_counts, constructors_declared}
use Rattle.theory_checking.specs.Names.{constructor_fields}
use Rattle.theory_checking.specs.Rules.{fields_declared, parameters_declared}
use Rattle.theory_checking.specs.Sets.{channel_sets, constructor_sets}
use Rattle.csp_inference.specs.declared.counts.Counts.{Counts}

-- They are the tree's.
pub record AreCountsOf {A : Type 0} (raw : RawScript) (c : Counts A) : Type 0 where
  pub constructors : c.constructors.items ≡ constructor_counts raw
  pub constructor_fields : c.constructor_fields.items ≡ map length (constructor_sets raw)
  pub fields : c.fields.items ≡ map length (channel_sets raw)
  pub parameters : c.parameters.items ≡ flat_map parameters_declared raw

-- how many nametypes the declaration declares
abbrev pub nametypes_counted : RawDeclaration → ℕ
nametypes_counted (RawNametype name domain) = 1
nametypes_counted _ = 0

-- Those of the declaration are added.
pub record AddsCounts {A : Type 0} (d : RawDeclaration) (old new : Counts A) : Type 0 where
  pub constructors : new.constructors.items ≡ old.constructors.items ++ constructors_declared d
  pub constructor_fields : new.constructor_fields.items ≡ old.constructor_fields.items ++ constructor_fields d
  pub fields : new.fields.items ≡ old.fields.items ++ fields_declared d
  pub parameters : new.parameters.items ≡ old.parameters.items ++ parameters_declared d

-- Those of the clauses are added.
pub record AddsClauses {A : Type 0} (cs : List RawClause) (old new : Counts A) : Type 0 where
  pub constructors : new.constructors.items ≡ old.constructors.items
  pub constructor_fields : new.constructor_fields.items ≡ old.constructor_fields.items ++ map (λ c. length c.fields) cs
  pub fields : new.fields.items ≡ old.fields.items
  pub parameters : new.parameters.items ≡ old.parameters.items
