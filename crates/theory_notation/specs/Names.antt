-- The spellings of a script's names, and the types by which values are told.
use Rattle.std.specs.Prelude.{ℕ, List, map, Option, Some, None}
use Rattle.std.specs.Str.{encode_utf8_all}
use Rattle.theory_syntax.specs.Types.{Types}
use Rattle.theory_text.specs.Raw.{RawScript}
use Rattle.theory_checking.specs.Names.{DatatypeName, ConstructorName, NametypeName, ChannelName, EquationName, names_of, bound_spellings}

-- Each class has its spellings in the order of the numbers, in bytes. The bound names are parameters, inputs and
-- replicated names. With types, a closed expression is told by its value; without them all is told as it is written.
pub record Names : Type 0 where
  pub channels : List (List ℕ)
  pub constructors : List (List ℕ)
  pub datatypes : List (List ℕ)
  pub nametypes : List (List ℕ)
  pub equations : List (List ℕ)
  pub bound : List (List ℕ)
  pub types : Option Types

abbrev pub in_bytes : List (List ℕ) → List (List ℕ)
in_bytes ss = map encode_utf8_all ss

-- those of a tree
abbrev pub names_in : RawScript → Names
names_in raw = record {
  channels = in_bytes (names_of ChannelName raw);
  constructors = in_bytes (names_of ConstructorName raw);
  datatypes = in_bytes (names_of DatatypeName raw);
  nametypes = in_bytes (names_of NametypeName raw);
  equations = in_bytes (names_of EquationName raw);
  bound = in_bytes (bound_spellings raw);
  types = None;
}

-- the names, with types by which values are told
abbrev pub with_types : Types → Names → Names
with_types types names = record names { types = Some types }
