-- What expressions ask that are to have the kinds of numbers in turn.
use Rattle.std.specs.Prelude.{List, map}
use Rattle.theory_syntax.specs.Expression.{to_expressions}
use Rattle.theory_checking.specs.Inference.Expressions.{behind_expressions, of_all, of_first}
use Rattle.csp_expression.specs.declared.expr.Expr.{Expr}
use Rattle.csp_expression.specs.declared.types.TypeTable.{TypeTable}
use Rattle.csp_expression.specs.Evaluation.{table_of}
use Rattle.csp_expression.specs.Expression.{expressions_of}
use Rattle.csp_inference.specs.declared.chain.KindNumber.{KindNumber}
use Rattle.csp_inference.specs.declared.numbering.NumberedName.{NumberedName}
use Rattle.csp_inference.specs.declared.numbering.Numbering.{Numbering}
use Rattle.csp_inference.specs.Numbering.{names_of, numbering_of}
use Rattle.csp_inference.specs.Question.{Question}

-- what arguments ask: that they are as many as the numbers and have their kinds
abbrev pub arguments_question : {A : Type 0} → TypeTable A → Numbering A → List NumberedName → List (Expr A) → List KindNumber → Question
arguments_question types numbering names expressions numbers = record {
  equations = λ n. of_all (table_of types) (numbering_of numbering) n (names_of names) (to_expressions (expressions_of expressions)) (map (λ m. m.0) numbers);
  behind = λ n. behind_expressions n (to_expressions (expressions_of expressions));
}

-- what leading arguments ask: that they are no more than the numbers and have the kinds of the first ones
abbrev pub leading_arguments_question : {A : Type 0} → TypeTable A → Numbering A → List NumberedName → List (Expr A) → List KindNumber → Question
leading_arguments_question types numbering names expressions numbers = record {
  equations = λ n. of_first (table_of types) (numbering_of numbering) n (names_of names) (to_expressions (expressions_of expressions)) (map (λ m. m.0) numbers);
  behind = λ n. behind_expressions n (to_expressions (expressions_of expressions));
}
