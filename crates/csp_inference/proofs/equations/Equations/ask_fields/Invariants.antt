use Rattle.std.proofs.Common.{map}
use Rattle.csp_expression.specs.Evaluation.{table_of}
use Rattle.csp_term.specs.Field.{fields_of}
use Rattle.csp_inference.specs.Numbering.{names_of, numbering_of}
use Rattle.csp_inference.proofs.AskingFields.{LeftFields}
use Rattle.csp_inference.proofs.equations.Equations.ask_fields.Given as goal

abbrev pub invariant-loop-index : goal.invariant-loop-index
invariant-loop-index g l =
    LeftFields (table_of l.types) (numbering_of l.numbering) l.initial.self l.self (names_of l.names) (names_of l.inner.items) (fields_of l.fields)
    (map (λ n. n.0) l.numbers) l.index
