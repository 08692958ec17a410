use Rattle.csp_expression.specs.Evaluation.{table_of}
use Rattle.csp_inference.specs.Numbering.{names_of, numbering_of}
use Rattle.csp_inference.proofs.Asking.{Left}
use Rattle.csp_inference.proofs.AskingEvents.{asked_beginnings, behind_asked_events}
use Rattle.csp_inference.proofs.equations.Equations.ask_beginnings.Given as goal

abbrev pub invariant-loop-event : goal.invariant-loop-event
invariant-loop-event g l = Left (asked_beginnings (table_of l.types) (numbering_of l.numbering) (names_of l.names)) behind_asked_events l.initial.self l.self l.events l.event-index
