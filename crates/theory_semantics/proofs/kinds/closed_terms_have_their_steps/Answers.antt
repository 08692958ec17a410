use Rattle.theory_semantics.proofs.ClosedTerms.{goes_on}
use Rattle.theory_semantics.proofs.kinds.closed_terms_have_their_steps.Goals as goal

pub returns : goal.returns
returns c = goes_on
