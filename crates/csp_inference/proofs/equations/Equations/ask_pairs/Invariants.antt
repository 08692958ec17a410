use Rattle.csp_term.specs.Script.{script_of_parts}
use Rattle.csp_inference.specs.Numbering.{names_of, numbering_of}
use Rattle.csp_inference.proofs.Asking.{Left}
use Rattle.csp_inference.proofs.AskingRenamings.{asked_pairs, behind_asked_pairs}
use Rattle.csp_inference.proofs.equations.Equations.ask_pairs.Given as goal

abbrev pub invariant-loop-pair : goal.invariant-loop-pair
invariant-loop-pair g l = Left (asked_pairs (script_of_parts l.script) (numbering_of l.numbering) (names_of l.names)) behind_asked_pairs l.initial.self l.self l.pairs l.pair-index
