-- What values ask that are to have a kind.
use Rattle.std.specs.Prelude.{List, map}
use Rattle.theory_syntax.specs.Value.{Constructor, to_values}
use Rattle.theory_checking.specs.Inference.Expressions.{behind_value, behind_values, of_rising, of_value, of_values, of_values_in_turn}
use Rattle.csp_value.specs.declared.name.ConId.{ConId}
use Rattle.csp_value.specs.declared.value.Value.{Value}
use Rattle.csp_value.specs.Value.{value_of, values_of}
use Rattle.csp_inference.specs.declared.chain.Demand.{Demand}
use Rattle.csp_inference.specs.declared.chain.KindNumber.{KindNumber}
use Rattle.csp_inference.specs.declared.numbering.Numbering.{Numbering}
use Rattle.csp_inference.specs.Chain.{demand_of}
use Rattle.csp_inference.specs.Numbering.{numbering_of}
use Rattle.csp_inference.specs.Question.{Question}

-- what a value asks: that it has the kind
abbrev pub value_question : {A : Type 0} → Numbering A → Value A → Demand → Question
value_question numbering value kind = record {
  equations = λ n. of_value (numbering_of numbering) n (value_of value) (demand_of kind);
  behind = λ n. behind_value n (value_of value);
}

-- what values ask: that all of them have the kind
abbrev pub values_question : {A : Type 0} → Numbering A → List (Value A) → Demand → Question
values_question numbering values kind = record {
  equations = λ n. of_values (numbering_of numbering) n (to_values (values_of values)) (demand_of kind);
  behind = λ n. behind_values n (to_values (values_of values));
}

-- what a constructor asks: that it has a datatype, and this is the kind, and that its fields have the kinds of their sets
abbrev pub constructor_question : {A : Type 0} → Numbering A → ConId → List (Value A) → Demand → Question
constructor_question numbering constructor fields kind = record {
  equations = λ n. of_value (numbering_of numbering) n (Constructor constructor.0 (to_values (values_of fields))) (demand_of kind);
  behind = λ n. behind_values n (to_values (values_of fields));
}

-- what values ask: that they are as many as the numbers and have their kinds in turn
abbrev pub values_in_turn_question : {A : Type 0} → Numbering A → List (Value A) → List KindNumber → Question
values_in_turn_question numbering values numbers = record {
  equations = λ n. of_values_in_turn (numbering_of numbering) n (to_values (values_of values)) (map (λ m. m.0) numbers);
  behind = λ n. behind_values n (to_values (values_of values));
}

-- what the members of a set ask: that they rise
abbrev pub rising_question : {A : Type 0} → List (Value A) → Question
rising_question members = record { equations = λ n. of_rising (to_values (values_of members)); behind = λ n. n }
