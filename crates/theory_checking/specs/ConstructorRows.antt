-- How many constructors each datatype of a tree has.
use Rattle.std.specs.Prelude.{ℕ, List, [], ◌∷◌, length, flat_map}
use Rattle.theory_text.specs.Raw.{RawDeclaration, RawDatatype, RawScript}
use Rattle.theory_checking.specs.Names.{clause_names}

abbrev pub constructors_declared : RawDeclaration → List ℕ
constructors_declared (RawDatatype name clauses) = length (clause_names clauses) ∷ []
constructors_declared _ = []

abbrev pub constructor_counts : RawScript → List ℕ
constructor_counts raw = flat_map constructors_declared raw
