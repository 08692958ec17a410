-- What operators, sequences and sets ask whose values are to have a kind.
use Rattle.std.specs.Prelude.{suc, [], ◌∷◌}
use Rattle.theory_syntax.specs.declared.operator.BinaryOperator.{BinaryOperator}
use Rattle.theory_syntax.specs.declared.operator.UnaryOperator.{UnaryOperator}
use Rattle.theory_syntax.specs.Operators.{binary_of, unary_of}
use Rattle.theory_checking.specs.Inference.Chain.{OpenEnd, SequenceOver, SetOver}
use Rattle.theory_checking.specs.Inference.Expressions.{behind_binary, behind_unary, binary_value, unary_value}
use Rattle.csp_inference.specs.declared.chain.Demand.{Demand}
use Rattle.csp_inference.specs.Chain.{demand_of}
use Rattle.csp_inference.specs.Question.{Question}

-- what an operator of one operand asks: that its value has the kind
abbrev pub unary_question : UnaryOperator → Demand → Question
unary_question operator kind = record {
  equations = λ n. (unary_value (unary_of operator) n, demand_of kind) ∷ [];
  behind = λ n. behind_unary (unary_of operator) n;
}

-- what an operator of two operands asks: the same
abbrev pub binary_question : BinaryOperator → Demand → Question
binary_question operator kind = record {
  equations = λ n. (binary_value (binary_of operator) n, demand_of kind) ∷ [];
  behind = λ n. behind_binary (binary_of operator) n;
}

-- what a sequence asks: that the kind is one of sequences, of a new kind
abbrev pub sequence_kind_question : Demand → Question
sequence_kind_question kind = record { equations = λ n. (SequenceOver (OpenEnd n), demand_of kind) ∷ []; behind = λ n. suc n }

-- what a set asks: that the kind is one of sets, of a new kind
abbrev pub set_kind_question : Demand → Question
set_kind_question kind = record { equations = λ n. (SetOver (OpenEnd n), demand_of kind) ∷ []; behind = λ n. suc n }
