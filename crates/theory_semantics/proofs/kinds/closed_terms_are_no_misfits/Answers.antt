use Rattle.theory_semantics.proofs.ClosedTerms.{no_misfit}
use Rattle.theory_semantics.proofs.kinds.closed_terms_are_no_misfits.Goals as goal

pub returns : goal.returns
returns c = no_misfit
