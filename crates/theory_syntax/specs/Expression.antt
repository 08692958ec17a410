-- Expressions.
use Rattle.std.specs.Prelude.{ℕ, List, [], ◌∷◌}
use Rattle.theory_syntax.specs.Value.{Value}

-- `-e`, `not e`, `#e`, `head(e)`, `tail(e)`, `null(e)`, `card(e)`
pub data Unary : Type 0 where
  Negate Not Length Head Tail IsNull Card : Unary

-- `+ - * % ^ == != < <= > >=`, `and`, `or`, and `elem member union inter diff` of two
pub data Binary : Type 0 where
  Add Subtract Multiply Modulus Concatenate Equals Differs LessThan AtMost GreaterThan AtLeast And Or : Binary
  IsElement IsMember Union Intersection Difference : Binary

-- A name is a bound one: a parameter, an input or a replicated name. It is known by its number.
-- A constructor that is written with its fields is a form of its own.
mutual
  pub data Expression : Type 0 where
    Literal : (value : Value) → Expression
    Name : (name : ℕ) → Expression
    Apply : (operator : Unary) (operand : Expression) → Expression
    Combine : (operator : Binary) (left right : Expression) → Expression
    SequenceOf : (items : Expressions) → Expression
    SetOf : (members : Expressions) → Expression
    Range : (from to : Expression) → Expression
    Booleans : Expression
    Datatype : (datatype : ℕ) → Expression
    Nametype : (nametype : ℕ) → Expression
    ConstructorOf : (constructor : ℕ) (fields : Expressions) → Expression

  -- a list of expressions
  pub data Expressions : Type 0 where
    no_expressions : Expressions
    expression_and : (first : Expression) (rest : Expressions) → Expressions

abbrev pub to_expressions : List Expression → Expressions
to_expressions [] = no_expressions
to_expressions (e ∷ es) = expression_and e (to_expressions es)

abbrev pub expressions_list : Expressions → List Expression
expressions_list no_expressions = []
expressions_list (expression_and e es) = e ∷ expressions_list es
