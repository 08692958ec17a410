use Rattle.theory_semantics.proofs.ClosedPutting.{kept_closed}
use Rattle.theory_semantics.proofs.kinds.closed_terms_have_no_free_names.Goals as goal

pub returns : goal.returns
returns c = λ script kinds bs t h. kept_closed script kinds bs t h
