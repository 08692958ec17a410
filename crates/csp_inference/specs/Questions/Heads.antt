-- What the heads of calls and prefixes ask.
use Rattle.std.specs.Prelude.{List, slice_get}
use Rattle.theory_syntax.specs.Expression.{to_expressions}
use Rattle.theory_checking.specs.Inference.Equations.{Numbered, when}
use Rattle.theory_checking.specs.Inference.Expressions.{behind_expressions, of_all}
use Rattle.theory_checking.specs.Inference.Processes.{behind_fields, of_fields}
use Rattle.csp_expression.specs.declared.expr.Expr.{Expr}
use Rattle.csp_expression.specs.declared.types.TypeTable.{TypeTable}
use Rattle.csp_expression.specs.Evaluation.{table_of}
use Rattle.csp_expression.specs.Expression.{expressions_of}
use Rattle.csp_value.specs.declared.name.ChannelId.{ChannelId}
use Rattle.csp_term.specs.declared.field.Field.{Field}
use Rattle.csp_term.specs.declared.name.EquationId.{EquationId}
use Rattle.csp_term.specs.Field.{fields_of}
use Rattle.csp_inference.specs.declared.numbering.NumberedName.{NumberedName}
use Rattle.csp_inference.specs.declared.numbering.Numbering.{Numbering}
use Rattle.csp_inference.specs.Equations.{names_behind_prefix}
use Rattle.csp_inference.specs.Numbering.{names_of, numbering_of}
use Rattle.csp_inference.specs.Question.{Question}

-- what a call asks: that the equation is there and the arguments are for its parameters, of their kinds
abbrev pub call_question : {A : Type 0} → TypeTable A → Numbering A → List NumberedName → EquationId → List (Expr A) → Question
call_question types numbering names called arguments = record {
  equations = λ n. when (slice_get (numbering_of numbering).parameters called.0)
      (of_all (table_of types) (numbering_of numbering) n (names_of names) (to_expressions (expressions_of arguments)));
  behind = λ n. behind_expressions n (to_expressions (expressions_of arguments));
}

-- what the head of a prefix asks: that the channel is there and the fields are for its fields, of their kinds
abbrev pub prefix_question : {A : Type 0} → TypeTable A → Numbering A → List NumberedName → ChannelId → List (Field A) → Question
prefix_question types numbering names channel fields = record {
  equations = λ n. when (slice_get (numbering_of numbering).channels channel.0)
      (of_fields (table_of types) (numbering_of numbering) n (names_of names) (fields_of fields));
  behind = λ n. behind_fields n (fields_of fields);
}

-- the names in the body of the prefix, with those of its inputs before the others
abbrev pub names_in_body : {A : Type 0} → Numbering A → List NumberedName → ChannelId → List (Field A) → Numbered
names_in_body numbering names channel fields = names_behind_prefix (numbering_of numbering) (names_of names) channel.0 (fields_of fields)
