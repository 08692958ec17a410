-- The datatypes, nametypes and constructors of a script.
use Rattle.std.specs.Prelude.{ℕ, List}
use Rattle.theory_syntax.specs.Value.{Value}

-- The constructors of each datatype, in the order of the declarations; the set of each nametype, rising; and the sets of
-- the fields of each constructor, by its number, each the list of its values, rising.
pub record Types : Type 0 where
  pub datatypes : List (List ℕ)
  pub nametypes : List (List Value)
  pub constructors : List (List (List Value))
