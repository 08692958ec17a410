-- The text of an expression.
use Rattle.std.specs.Prelude.{ℕ, nat_le, Bool, true, false, not, ◌&&◌, List, [], ◌++◌, codes}
use Rattle.theory_syntax.specs.Expression.{Unary, Negate, Not, Length, Head, Tail, IsNull, Card, Binary, Add, Subtract, Multiply, Modulus, Concatenate, Equals, Differs, LessThan, AtMost, GreaterThan, AtLeast, And, Or, IsElement, IsMember, Union, Intersection, Difference, Expression, Literal, Name, Apply, Combine, SequenceOf, SetOf, Range, Booleans, Datatype, Nametype, ConstructorOf, Expressions, no_expressions, expression_and}
use Rattle.theory_search.specs.Printing.{name_at}
use Rattle.theory_notation.specs.Names.{Names}
use Rattle.theory_notation.specs.Marks.{bare_or_bracketed, gap}
use Rattle.theory_notation.specs.Values as value
use Rattle.theory_notation.specs.Values.{value_text}

-- ---- ranks

-- The rank of a form says how strongly it holds together: 0 for `or`, 1 for `and`, 2 for `not`, 3 for a comparison, 4 for
-- `+ - ^`, 5 for `* %`, and 6 for what is an atom.
abbrev pub unary_rank : Unary → ℕ
unary_rank Not = 2
unary_rank op = 6

abbrev pub binary_rank : Binary → ℕ
binary_rank Or = 0
binary_rank And = 1
binary_rank Equals = 3
binary_rank Differs = 3
binary_rank LessThan = 3
binary_rank AtMost = 3
binary_rank GreaterThan = 3
binary_rank AtLeast = 3
binary_rank Add = 4
binary_rank Subtract = 4
binary_rank Concatenate = 4
binary_rank Multiply = 5
binary_rank Modulus = 5
binary_rank op = 6

abbrev pub rank : Expression → ℕ
rank (Apply op e) = unary_rank op
rank (Combine op e f) = binary_rank op
rank e = 6

-- The least rank with which an operand stands bare. Chains group to the left, a comparison has no second one beside it,
-- and what stands in the brackets of a function may have any.
abbrev pub operand_rank : Unary → ℕ
operand_rank Negate = 6
operand_rank Length = 6
operand_rank Not = 2
operand_rank op = 0

abbrev pub left_rank : Binary → ℕ
left_rank Or = 0
left_rank And = 1
left_rank Equals = 4
left_rank Differs = 4
left_rank LessThan = 4
left_rank AtMost = 4
left_rank GreaterThan = 4
left_rank AtLeast = 4
left_rank Add = 4
left_rank Subtract = 4
left_rank Concatenate = 4
left_rank Multiply = 5
left_rank Modulus = 5
left_rank op = 0

abbrev pub right_rank : Binary → ℕ
right_rank Or = 1
right_rank And = 2
right_rank Equals = 4
right_rank Differs = 4
right_rank LessThan = 4
right_rank AtMost = 4
right_rank GreaterThan = 4
right_rank AtLeast = 4
right_rank Add = 5
right_rank Subtract = 5
right_rank Concatenate = 5
right_rank Multiply = 6
right_rank Modulus = 6
right_rank op = 0

-- ---- operators

abbrev pub text_before_operand : Unary → List ℕ
text_before_operand Negate = codes "-"
text_before_operand Not = codes "not "
text_before_operand Length = codes "#"
text_before_operand Head = codes "head("
text_before_operand Tail = codes "tail("
text_before_operand IsNull = codes "null("
text_before_operand Card = codes "card("

abbrev pub text_behind_operand : Unary → List ℕ
text_behind_operand Negate = []
text_behind_operand Not = []
text_behind_operand Length = []
text_behind_operand op = codes ")"

abbrev pub is_function : Binary → Bool
is_function IsElement = true
is_function IsMember = true
is_function Union = true
is_function Intersection = true
is_function Difference = true
is_function op = false

abbrev pub text_before : Binary → List ℕ
text_before IsElement = codes "elem("
text_before IsMember = codes "member("
text_before Union = codes "union("
text_before Intersection = codes "inter("
text_before Difference = codes "diff("
text_before op = []

abbrev pub text_between : Binary → List ℕ
text_between Add = codes " + "
text_between Subtract = codes " - "
text_between Multiply = codes " * "
text_between Modulus = codes " % "
text_between Concatenate = codes " ^ "
text_between Equals = codes " == "
text_between Differs = codes " != "
text_between LessThan = codes " < "
text_between AtMost = codes " <= "
text_between GreaterThan = codes " > "
text_between AtLeast = codes " >= "
text_between And = codes " and "
text_between Or = codes " or "
text_between op = codes ","

abbrev pub text_behind : Binary → List ℕ
text_behind IsElement = codes ")"
text_behind IsMember = codes ")"
text_behind Union = codes ")"
text_behind Intersection = codes ")"
text_behind Difference = codes ")"
text_behind op = []

-- ---- expressions

abbrev pub is_negation : Unary → Bool
is_negation Negate = true
is_negation op = false

-- The text begins with `-`; so does that of an operand, which stands bare with at least this rank.
abbrev pub begins_with_minus : Expression → Bool
begins_with_minus (Literal v) = value.begins_with_minus v
begins_with_minus (Apply op e) = is_negation op
begins_with_minus (Combine op e f) = not (is_function op) && (nat_le (left_rank op) (rank e) && begins_with_minus e)
begins_with_minus e = false

abbrev pub operand_begins_with_minus : ℕ → Expression → Bool
operand_begins_with_minus least e = nat_le least (rank e) && begins_with_minus e

-- only behind the `-` of a negation a `-` has to be kept apart
abbrev pub keeps_apart : Unary → Expression → Bool
keeps_apart Negate e = operand_begins_with_minus 6 e
keeps_apart op e = false

-- An operand stands in brackets where its rank is too low. An item of a sequence has at least the rank of a sum, since `>`
-- ends the sequence, and the field of a constructor that of an atom.
abbrev mutual
  pub expression_text : Names → Expression → List ℕ
  expression_text names (Literal v) = value_text names v
  expression_text names (Name n) = name_at names.bound n
  expression_text names (Apply op e) =
      text_before_operand op ++ (gap (keeps_apart op e) ++ (bare_or_bracketed (nat_le (operand_rank op) (rank e)) (expression_text names e) ++ text_behind_operand op))
  expression_text names (Combine op e f) =
      text_before op ++ (bare_or_bracketed (nat_le (left_rank op) (rank e)) (expression_text names e)
      ++ (text_between op ++ (bare_or_bracketed (nat_le (right_rank op) (rank f)) (expression_text names f) ++ text_behind op)))
  expression_text names (SequenceOf es) = codes "<" ++ (items_text names 4 es ++ codes ">")
  expression_text names (SetOf es) = codes "{" ++ (items_text names 0 es ++ codes "}")
  expression_text names (Range e f) = codes "{" ++ (gap (begins_with_minus e) ++ (expression_text names e ++ (codes ".." ++ (expression_text names f ++ codes "}"))))
  expression_text names Booleans = codes "Bool"
  expression_text names (Datatype d) = name_at names.datatypes d
  expression_text names (Nametype n) = name_at names.nametypes n
  expression_text names (ConstructorOf k no_expressions) = name_at names.constructors k
  expression_text names (ConstructorOf k (expression_and e es)) =
      codes "(" ++ (name_at names.constructors k ++ (expressions_behind names (codes ".") 6 (expression_and e es) ++ codes ")"))

  -- expressions of at least this rank with `,` between, behind `<` or `{`
  pub items_text : Names → ℕ → Expressions → List ℕ
  items_text names least no_expressions = []
  items_text names least (expression_and e es) =
      gap (operand_begins_with_minus least e) ++ (bare_or_bracketed (nat_le least (rank e)) (expression_text names e) ++ expressions_behind names (codes ",") least es)

  -- expressions of at least this rank, with the mark before each
  pub expressions_behind : Names → List ℕ → ℕ → Expressions → List ℕ
  expressions_behind names mark least no_expressions = []
  expressions_behind names mark least (expression_and e es) =
      mark ++ (bare_or_bracketed (nat_le least (rank e)) (expression_text names e) ++ expressions_behind names mark least es)

-- an operand of at least this rank
abbrev pub operand_text : Names → ℕ → Expression → List ℕ
operand_text names least e = bare_or_bracketed (nat_le least (rank e)) (expression_text names e)
