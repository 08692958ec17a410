-- The text of a value.
use Rattle.std.specs.Prelude.{ℕ, Bool, false, not, ◌&&◌, cond, List, [], ◌++◌, codes, ℤ, pos, negsuc, int_lt}
use Rattle.std.specs.Ordering.{int_eq}
use Rattle.std.specs.Fmt.{signed_decimal}
use Rattle.theory_syntax.specs.Value.{Value, Integer, Truth, Constructor, Sequence, Set, Values, no_values, value_and}
use Rattle.theory_search.specs.Printing.{name_at, truth_text}
use Rattle.theory_notation.specs.Names.{Names}
use Rattle.theory_notation.specs.Marks.{gap}

-- The least number of 32 bits cannot be written with one sign, since a script has no number above 2147483647.
abbrev pub is_least : ℤ → Bool
is_least z = int_eq z (negsuc 2147483647)

abbrev pub integer_text : ℤ → List ℕ
integer_text z = cond (is_least z) (codes "(-2147483647 - 1)") (signed_decimal z)

-- the text of a value begins with `-`
abbrev pub begins_with_minus : Value → Bool
begins_with_minus (Integer z) = int_lt z (pos 0) && not (is_least z)
begins_with_minus v = false

-- A sequence stands in `<` and `>`, a set in `{` and `}`, with `,` between the members. A constructor with fields stands
-- in `(` and `)`, with `.` before each field.
abbrev mutual
  pub value_text : Names → Value → List ℕ
  value_text names (Integer z) = integer_text z
  value_text names (Truth b) = truth_text b
  value_text names (Constructor k no_values) = name_at names.constructors k
  value_text names (Constructor k (value_and v vs)) =
      codes "(" ++ (name_at names.constructors k ++ (values_behind names (codes ".") (value_and v vs) ++ codes ")"))
  value_text names (Sequence vs) = codes "<" ++ (values_text names vs ++ codes ">")
  value_text names (Set vs) = codes "{" ++ (values_text names vs ++ codes "}")

  -- values with `,` between, behind `<` or `{`
  pub values_text : Names → Values → List ℕ
  values_text names no_values = []
  values_text names (value_and v vs) = gap (begins_with_minus v) ++ (value_text names v ++ values_behind names (codes ",") vs)

  -- values with the mark before each
  pub values_behind : Names → List ℕ → Values → List ℕ
  values_behind names mark no_values = []
  values_behind names mark (value_and v vs) = mark ++ (value_text names v ++ values_behind names mark vs)
