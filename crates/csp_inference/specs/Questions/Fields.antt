-- What the fields of a prefix ask that are to have the kinds of numbers in turn.
use Rattle.std.specs.Prelude.{List, [], ◌∷◌, map}
use Rattle.theory_checking.specs.Inference.Equations.{Numbered}
use Rattle.theory_checking.specs.Inference.Processes.{behind_fields, names_behind, of_fields}
use Rattle.csp_expression.specs.declared.types.TypeTable.{TypeTable}
use Rattle.csp_expression.specs.Evaluation.{table_of}
use Rattle.csp_term.specs.declared.field.Field.{Field}
use Rattle.csp_term.specs.Field.{field_of, fields_of}
use Rattle.csp_inference.specs.declared.chain.KindNumber.{KindNumber}
use Rattle.csp_inference.specs.declared.numbering.NumberedName.{NumberedName}
use Rattle.csp_inference.specs.declared.numbering.Numbering.{Numbering}
use Rattle.csp_inference.specs.Numbering.{names_of, numbering_of}
use Rattle.csp_inference.specs.Question.{Question}

-- what fields ask: that they are as many as the numbers and have their kinds
abbrev pub fields_question : {A : Type 0} → TypeTable A → Numbering A → List NumberedName → List (Field A) → List KindNumber → Question
fields_question types numbering names fields numbers = record {
  equations = λ n. of_fields (table_of types) (numbering_of numbering) n (names_of names) (fields_of fields) (map (λ m. m.0) numbers);
  behind = λ n. behind_fields n (fields_of fields);
}

-- what a field asks: that it has the kind of the number
abbrev pub field_question : {A : Type 0} → TypeTable A → Numbering A → List NumberedName → Field A → KindNumber → Question
field_question types numbering names field number = record {
  equations = λ n. of_fields (table_of types) (numbering_of numbering) n (names_of names) (field_of field ∷ []) (number.0 ∷ []);
  behind = λ n. behind_fields n (field_of field ∷ []);
}

-- the names behind the fields, with those of the inputs before the others
abbrev pub names_behind_fields : {A : Type 0} → List NumberedName → List (Field A) → List KindNumber → Numbered
names_behind_fields names fields numbers = names_behind (names_of names) (fields_of fields) (map (λ m. m.0) numbers)

-- the names behind the field, with its own before the others if it is an input
abbrev pub names_behind_field : {A : Type 0} → List NumberedName → Field A → KindNumber → Numbered
names_behind_field names field number = names_behind (names_of names) (field_of field ∷ []) (number.0 ∷ [])
