-- The equations that expressions ask for.
use Rattle.std.specs.Prelude.{ℕ, suc, cond, List, [], ◌∷◌, ◌++◌, slice_get}
use Rattle.theory_syntax.specs.Value.{Value, Integer, Truth, Constructor, Sequence, Set, Values, no_values, value_and, values_list}
use Rattle.theory_syntax.specs.Expression.{Unary, Negate, Not, Length, Head, Tail, IsNull, Card, Binary, Add, Subtract, Multiply, Modulus, Concatenate, Equals, Differs, And, Or, IsElement, IsMember, Union, Intersection, Difference, Expression, Literal, Name, Apply, Combine, SequenceOf, SetOf, Range, Booleans, Datatype, Nametype, ConstructorOf, Expressions, no_expressions, expression_and}
use Rattle.theory_syntax.specs.Types.{Types}
use Rattle.theory_semantics.specs.Meaning.Offers.{rises}
use Rattle.theory_checking.specs.Inference.Chain.{Chain, IntEnd, BoolEnd, DatatypeEnd, OpenEnd, SequenceOver, SetOver}
use Rattle.theory_checking.specs.Inference.State.{KindEquation}
use Rattle.theory_checking.specs.Inference.Equations.{never, when, Numbering, Numbered, number_of_name}

-- ---- operators: the next number behind one, and the kinds of its operands and of its value, where n is a number of its own

abbrev pub behind_unary : Unary → ℕ → ℕ
behind_unary Negate n = n
behind_unary Not n = n
behind_unary _ n = suc n

abbrev pub operand : Unary → ℕ → Chain
operand Negate n = IntEnd
operand Not n = BoolEnd
operand Card n = SetOver (OpenEnd n)
operand _ n = SequenceOver (OpenEnd n)

abbrev pub unary_value : Unary → ℕ → Chain
unary_value Negate n = IntEnd
unary_value Not n = BoolEnd
unary_value Length n = IntEnd
unary_value Head n = OpenEnd n
unary_value Tail n = SequenceOver (OpenEnd n)
unary_value IsNull n = BoolEnd
unary_value Card n = IntEnd

abbrev pub behind_binary : Binary → ℕ → ℕ
behind_binary Concatenate n = suc n
behind_binary Equals n = suc n
behind_binary Differs n = suc n
behind_binary IsElement n = suc n
behind_binary IsMember n = suc n
behind_binary Union n = suc n
behind_binary Intersection n = suc n
behind_binary Difference n = suc n
behind_binary _ n = n

abbrev pub left_operand : Binary → ℕ → Chain
left_operand Concatenate n = SequenceOver (OpenEnd n)
left_operand Equals n = OpenEnd n
left_operand Differs n = OpenEnd n
left_operand And n = BoolEnd
left_operand Or n = BoolEnd
left_operand IsElement n = OpenEnd n
left_operand IsMember n = OpenEnd n
left_operand Union n = SetOver (OpenEnd n)
left_operand Intersection n = SetOver (OpenEnd n)
left_operand Difference n = SetOver (OpenEnd n)
left_operand _ n = IntEnd

-- the right operand is of the left one's kind, save where a member is looked for
abbrev pub right_operand : Binary → ℕ → Chain
right_operand IsElement n = SequenceOver (OpenEnd n)
right_operand IsMember n = SetOver (OpenEnd n)
right_operand op n = left_operand op n

abbrev pub binary_value : Binary → ℕ → Chain
binary_value Add n = IntEnd
binary_value Subtract n = IntEnd
binary_value Multiply n = IntEnd
binary_value Modulus n = IntEnd
binary_value Concatenate n = SequenceOver (OpenEnd n)
binary_value Union n = SetOver (OpenEnd n)
binary_value Intersection n = SetOver (OpenEnd n)
binary_value Difference n = SetOver (OpenEnd n)
binary_value _ n = BoolEnd

-- ---- the next number behind a value or an expression

abbrev mutual
  pub behind_value : ℕ → Value → ℕ
  behind_value n (Sequence vs) = behind_values (suc n) vs
  behind_value n (Set vs) = behind_values (suc n) vs
  behind_value n (Integer z) = n
  behind_value n (Truth b) = n
  behind_value n (Constructor c vs) = behind_values n vs

  pub behind_values : ℕ → Values → ℕ
  behind_values n no_values = n
  behind_values n (value_and v vs) = behind_values (behind_value n v) vs

abbrev mutual
  pub behind_expression : ℕ → Expression → ℕ
  behind_expression n (Literal v) = behind_value n v
  behind_expression n (Apply op e) = behind_expression (behind_unary op n) e
  behind_expression n (Combine op e f) = behind_expression (behind_expression (behind_binary op n) e) f
  behind_expression n (SequenceOf es) = behind_expressions (suc n) es
  behind_expression n (SetOf es) = behind_expressions (suc n) es
  behind_expression n (Range e f) = behind_expression (behind_expression n e) f
  behind_expression n (Name x) = n
  behind_expression n Booleans = n
  behind_expression n (Datatype d) = n
  behind_expression n (Nametype x) = n
  behind_expression n (ConstructorOf c es) = behind_expressions n es

  pub behind_expressions : ℕ → Expressions → ℕ
  behind_expressions n no_expressions = n
  behind_expressions n (expression_and e es) = behind_expressions (behind_expression n e) es

-- nothing is asked of the members of a set that rise, and no kinds fit others
abbrev pub of_rising : Values → List KindEquation
of_rising vs = cond (rises (values_list vs)) [] never

-- ---- the equations of a value or an expression, in its order, that is to have the kind k; n is the next number

abbrev mutual
  pub of_value : Numbering → ℕ → Value → Chain → List KindEquation
  of_value o n (Integer z) k = (IntEnd, k) ∷ []
  of_value o n (Truth b) k = (BoolEnd, k) ∷ []
  of_value o n (Constructor c vs) k = when (slice_get o.owners c) (λ d. (DatatypeEnd d, k) ∷ when (slice_get o.constructors c) (of_values_in_turn o n vs))
  of_value o n (Sequence vs) k = (SequenceOver (OpenEnd n), k) ∷ of_values o (suc n) vs (OpenEnd n)
  of_value o n (Set vs) k = (SetOver (OpenEnd n), k) ∷ of_values o (suc n) vs (OpenEnd n) ++ of_rising vs

  pub of_values : Numbering → ℕ → Values → Chain → List KindEquation
  of_values o n no_values k = []
  of_values o n (value_and v vs) k = of_value o n v k ++ of_values o (behind_value n v) vs k

  -- values in turn, with the numbers of their kinds
  pub of_values_in_turn : Numbering → ℕ → Values → List ℕ → List KindEquation
  of_values_in_turn o n no_values [] = []
  of_values_in_turn o n (value_and v vs) (m ∷ ms) = of_value o n v (OpenEnd m) ++ of_values_in_turn o (behind_value n v) vs ms
  of_values_in_turn o n vs ms = never

abbrev mutual
  pub of_expression : Types → Numbering → ℕ → Numbered → Expression → Chain → List KindEquation
  of_expression types o n names (Literal v) k = of_value o n v k
  of_expression types o n names (Name x) k = when (number_of_name names x) (λ m. (OpenEnd m, k) ∷ [])
  of_expression types o n names (Apply op e) k = (unary_value op n, k) ∷ of_expression types o (behind_unary op n) names e (operand op n)
  of_expression types o n names (Combine op e f) k =
      (binary_value op n, k) ∷ of_expression types o (behind_binary op n) names e (left_operand op n)
      ++ of_expression types o (behind_expression (behind_binary op n) e) names f (right_operand op n)
  of_expression types o n names (SequenceOf es) k = (SequenceOver (OpenEnd n), k) ∷ of_expressions types o (suc n) names es (OpenEnd n)
  of_expression types o n names (SetOf es) k = (SetOver (OpenEnd n), k) ∷ of_expressions types o (suc n) names es (OpenEnd n)
  of_expression types o n names (Range e f) k =
      (SetOver IntEnd, k) ∷ of_expression types o n names e IntEnd ++ of_expression types o (behind_expression n e) names f IntEnd
  of_expression types o n names Booleans k = (SetOver BoolEnd, k) ∷ []
  of_expression types o n names (Datatype d) k = when (slice_get types.datatypes d) (λ cs. (SetOver (DatatypeEnd d), k) ∷ [])
  of_expression types o n names (Nametype x) k = when (slice_get o.nametypes x) (λ m. (SetOver (OpenEnd m), k) ∷ [])
  of_expression types o n names (ConstructorOf c es) k =
      when (slice_get o.owners c) (λ d. (DatatypeEnd d, k) ∷ when (slice_get o.constructors c) (of_all types o n names es))

  pub of_expressions : Types → Numbering → ℕ → Numbered → Expressions → Chain → List KindEquation
  of_expressions types o n names no_expressions k = []
  of_expressions types o n names (expression_and e es) k = of_expression types o n names e k ++ of_expressions types o (behind_expression n e) names es k

  -- expressions in turn, with the numbers of their kinds
  pub of_all : Types → Numbering → ℕ → Numbered → Expressions → List ℕ → List KindEquation
  of_all types o n names no_expressions [] = []
  of_all types o n names (expression_and e es) (m ∷ ms) = of_expression types o n names e (OpenEnd m) ++ of_all types o (behind_expression n e) names es ms
  of_all types o n names es ms = never

-- expressions with the first of the numbers
abbrev pub of_first : Types → Numbering → ℕ → Numbered → Expressions → List ℕ → List KindEquation
of_first types o n names no_expressions ms = []
of_first types o n names (expression_and e es) (m ∷ ms) = of_expression types o n names e (OpenEnd m) ++ of_first types o (behind_expression n e) names es ms
of_first types o n names (expression_and e es) [] = never
