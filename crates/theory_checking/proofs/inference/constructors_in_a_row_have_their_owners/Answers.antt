use Rattle.theory_checking.proofs.Owning.{rows_have_owners}
use Rattle.theory_checking.proofs.inference.constructors_in_a_row_have_their_owners.Goals as goal

pub returns : goal.returns
returns c = λ types o ks rows owners. rows_have_owners types o ks rows owners
