-- What the sets of nametypes and fields ask, whose members are to have the kinds of numbers.
use Rattle.std.specs.Prelude.{List, map, Some}
use Rattle.theory_checking.specs.Inference.Items.{behind_copies, behind_set, of_copies, of_set}
use Rattle.csp_expression.specs.declared.expr.Expr.{Expr}
use Rattle.csp_expression.specs.declared.types.TypeTable.{TypeTable}
use Rattle.csp_expression.specs.Evaluation.{table_of}
use Rattle.csp_expression.specs.Expression.{expression_of}
use Rattle.csp_inference.specs.declared.chain.KindNumber.{KindNumber}
use Rattle.csp_inference.specs.declared.numbering.Numbering.{Numbering}
use Rattle.csp_inference.specs.Numbering.{numbering_of}
use Rattle.csp_inference.specs.Question.{Question}

-- what a set asks: that its members have the kind of the number
abbrev pub set_question : {A : Type 0} → TypeTable A → Numbering A → Expr A → KindNumber → Question
set_question types numbering set members = record {
  equations = λ n. of_set (table_of types) (numbering_of numbering) n (Some (expression_of set)) members.0;
  behind = λ n. behind_set n (Some (expression_of set));
}

-- what a set asks once for each of the numbers
abbrev pub copies_question : {A : Type 0} → TypeTable A → Numbering A → Expr A → List KindNumber → Question
copies_question types numbering set numbers = record {
  equations = λ n. of_copies (table_of types) (numbering_of numbering) n (Some (expression_of set)) (map (λ m. m.0) numbers);
  behind = λ n. behind_copies n (Some (expression_of set)) (map (λ m. m.0) numbers);
}
