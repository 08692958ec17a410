use Rattle.theory_semantics.specs.Meaning.Limits.{size}
use Rattle.csp_term.specs.Term.{process_of}
use Rattle.csp_inference.proofs.equations.Equations.+ask_process.Given as goal

abbrev pub decreases-ask_process : goal.decreases-ask_process
decreases-ask_process g l = size (process_of l.process.now)
