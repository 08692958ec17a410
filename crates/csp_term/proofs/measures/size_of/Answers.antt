use Rattle.csp_term.specs.Term.{process_of}
use Rattle.csp_term.proofs.WithinLimits.{small}
use Rattle.csp_term.proofs.measures.size_of.Goals as goal

pub returns-in-None : goal.returns-in-None
returns-in-None g c = absurd (c.in-None.ensures (small (process_of c.args.term.now) c.requires))
