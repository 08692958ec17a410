-- Kinds for a small script, and small sets, for the worked rows.
use Rattle.std.specs.Prelude.{[], ◌∷◌}
use Rattle.theory_syntax.specs.Value.{Value, Set, no_values, value_and}
use Rattle.theory_semantics.specs.Laws.Terms.{number}
use Rattle.theory_semantics.specs.Kinds.Kind.{IntKind, DatatypeKind, Kinds}

-- those of `channel c : {0..1}` and `channel d : {0..1}.{0..1}`
abbrev pub kinds_of_digits : Kinds
kinds_of_digits = record { nametypes = []; constructors = []; channels = (IntKind ∷ []) ∷ (IntKind ∷ IntKind ∷ []) ∷ []; parameters = [] }

-- those of `datatype D = N | B.{0..1}` and `channel d : D`
abbrev pub kinds_of_bits : Kinds
kinds_of_bits = record { nametypes = []; constructors = [] ∷ (IntKind ∷ []) ∷ []; channels = (DatatypeKind 0 ∷ []) ∷ []; parameters = [] }

-- 1 and 2 as the members of a set, in their order and in the other one
abbrev pub one_and_two : Value
one_and_two = Set (value_and (number 1) (value_and (number 2) no_values))

abbrev pub two_and_one : Value
two_and_one = Set (value_and (number 2) (value_and (number 1) no_values))
