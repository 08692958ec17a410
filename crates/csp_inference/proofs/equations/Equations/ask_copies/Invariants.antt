use Rattle.csp_expression.specs.Evaluation.{table_of}
use Rattle.csp_expression.specs.Expression.{expression_of}
use Rattle.csp_inference.specs.Numbering.{numbering_of}
use Rattle.csp_inference.proofs.Asking.{Left}
use Rattle.csp_inference.proofs.AskingSets.{asked_copies, behind_asked_copies}
use Rattle.csp_inference.proofs.equations.Equations.ask_copies.Given as goal

abbrev pub invariant-loop-members : goal.invariant-loop-members
invariant-loop-members g l =
    Left (asked_copies (table_of l.types) (numbering_of l.numbering) (expression_of l.set)) (behind_asked_copies (expression_of l.set)) l.initial.self l.self
    l.numbers l.members-index
