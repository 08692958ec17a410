use Rattle.csp_term.specs.Term.{process_of}
use Rattle.csp_numbers.proofs.Heads.{small_own}
use Rattle.csp_numbers.proofs.own_size.own_size_of.Goals as goal

pub returns-in-None : goal.returns-in-None
returns-in-None g c = absurd (c.in-None.ensures (small_own (process_of c.args.term.now) c.requires))
