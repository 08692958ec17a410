-- Names for the samples of texts: the channel `c`, the constructors `N` and `B`, the equation `P`, and the bound name `x`.
use Rattle.std.specs.Prelude.{ℕ, ◌∷◌, [], codes, pos, negsuc, None}
use Rattle.theory_syntax.specs.Value.{Integer, Value}
use Rattle.theory_syntax.specs.Expression.{Expression, Expressions, no_expressions, expression_and, Literal, Name}
use Rattle.theory_syntax.specs.Process.{Process, Call, Prefix, Field}
use Rattle.theory_notation.specs.Names.{Names, with_types}

abbrev pub names : Names
names = record {
  channels = codes "c" ∷ [];
  constructors = codes "N" ∷ codes "B" ∷ [];
  datatypes = [];
  nametypes = [];
  equations = codes "P" ∷ [];
  bound = codes "x" ∷ [];
  types = None;
}

-- the same, by which values are told
abbrev pub telling : Names
telling = with_types (record { datatypes = []; nametypes = []; constructors = [] ∷ [] }) names

abbrev pub number : ℕ → Expression
number n = Literal (Integer (pos n))

abbrev pub minus_one : Value
minus_one = Integer (negsuc 0)

abbrev pub x : Expression
x = Name 0

abbrev pub one : Expression → Expressions
one e = expression_and e no_expressions

abbrev pub two : Expression → Expression → Expressions
two e f = expression_and e (one f)

abbrev pub p : Process
p = Call 0 no_expressions

abbrev pub on_c : Field → Process → Process
on_c f q = Prefix 0 (f ∷ []) q
