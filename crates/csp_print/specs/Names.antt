-- The names that those of the code stand for.
use Rattle.std.specs.Prelude.{ℕ, List, map, option_map}
use Rattle.std.specs.Borrow.{Bor}
use Rattle.csp_expression.specs.Evaluation.{table_of}
use Rattle.theory_notation.specs.Names as pure
use Rattle.csp_print.specs.declared.names.Names.{Names}

abbrev pub spellings_of : List (Bor (List ℕ)) → List (List ℕ)
spellings_of ss = map (λ s. s.now) ss

abbrev pub names_of : {A : Type 0} → Names A → pure.Names
names_of n = record {
  channels = spellings_of n.channels.items;
  constructors = spellings_of n.constructors.items;
  datatypes = spellings_of n.datatypes.items;
  nametypes = spellings_of n.nametypes.items;
  equations = spellings_of n.equations.items;
  bound = spellings_of n.bound.items;
  types = option_map table_of n.types;
}
