-- What expressions ask that are to have a kind, where names have the kinds of their numbers.
use Rattle.std.specs.Prelude.{List, [], ◌∷◌, slice_get}
use Rattle.theory_syntax.specs.Expression.{ConstructorOf, to_expressions}
use Rattle.theory_checking.specs.Inference.Chain.{DatatypeEnd, OpenEnd, SetOver}
use Rattle.theory_checking.specs.Inference.Equations.{number_of_name, when}
use Rattle.theory_checking.specs.Inference.Expressions.{behind_expression, behind_expressions, of_expression, of_expressions}
use Rattle.csp_value.specs.declared.name.ConId.{ConId}
use Rattle.csp_expression.specs.declared.expr.Expr.{Expr}
use Rattle.csp_expression.specs.declared.name.DatatypeId.{DatatypeId}
use Rattle.csp_expression.specs.declared.name.Name.{Name}
use Rattle.csp_expression.specs.declared.name.NametypeId.{NametypeId}
use Rattle.csp_expression.specs.declared.types.TypeTable.{TypeTable}
use Rattle.csp_expression.specs.Evaluation.{table_of}
use Rattle.csp_expression.specs.Expression.{expression_of, expressions_of}
use Rattle.csp_inference.specs.declared.chain.Demand.{Demand}
use Rattle.csp_inference.specs.declared.numbering.NumberedName.{NumberedName}
use Rattle.csp_inference.specs.declared.numbering.Numbering.{Numbering}
use Rattle.csp_inference.specs.Chain.{demand_of}
use Rattle.csp_inference.specs.Numbering.{names_of, numbering_of}
use Rattle.csp_inference.specs.Question.{Question}

-- what an expression asks: that it has the kind
abbrev pub expression_question : {A : Type 0} → TypeTable A → Numbering A → List NumberedName → Expr A → Demand → Question
expression_question types numbering names expression kind = record {
  equations = λ n. of_expression (table_of types) (numbering_of numbering) n (names_of names) (expression_of expression) (demand_of kind);
  behind = λ n. behind_expression n (expression_of expression);
}

-- what expressions ask: that all of them have the kind
abbrev pub expressions_question : {A : Type 0} → TypeTable A → Numbering A → List NumberedName → List (Expr A) → Demand → Question
expressions_question types numbering names expressions kind = record {
  equations = λ n. of_expressions (table_of types) (numbering_of numbering) n (names_of names) (to_expressions (expressions_of expressions)) (demand_of kind);
  behind = λ n. behind_expressions n (to_expressions (expressions_of expressions));
}

-- what a name asks: that it is bound and has the kind
abbrev pub name_question : List NumberedName → Name → Demand → Question
name_question names name kind = record {
  equations = λ n. when (number_of_name (names_of names) name.0) (λ m. (OpenEnd m, demand_of kind) ∷ []);
  behind = λ n. n;
}

-- what a datatype asks: that it is there and the set of its values has the kind
abbrev pub datatype_question : {A : Type 0} → TypeTable A → DatatypeId → Demand → Question
datatype_question types datatype kind = record {
  equations = λ n. when (slice_get (table_of types).datatypes datatype.0) (λ cs. (SetOver (DatatypeEnd datatype.0), demand_of kind) ∷ []);
  behind = λ n. n;
}

-- what a nametype asks: that it is there and the set that it names has the kind
abbrev pub nametype_question : {A : Type 0} → Numbering A → NametypeId → Demand → Question
nametype_question numbering nametype kind = record {
  equations = λ n. when (slice_get (numbering_of numbering).nametypes nametype.0) (λ m. (SetOver (OpenEnd m), demand_of kind) ∷ []);
  behind = λ n. n;
}

-- what a constructor with fields asks: that it has a datatype, whose kind this is, and that its fields have the kinds of their sets
abbrev pub constructed_question : {A : Type 0} → TypeTable A → Numbering A → List NumberedName → ConId → List (Expr A) → Demand → Question
constructed_question types numbering names constructor fields kind = record {
  equations = λ n. of_expression (table_of types) (numbering_of numbering) n (names_of names) (ConstructorOf constructor.0 (to_expressions (expressions_of fields))) (demand_of kind);
  behind = λ n. behind_expressions n (to_expressions (expressions_of fields));
}
