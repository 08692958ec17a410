use Rattle.theory_unfolding.specs.Unfolded.{itself}
use Rattle.theory_unfolding.proofs.Refining.{refines_on, refines_back}
use Rattle.theory_unfolding.proofs.both_readings.names_at_once_keep_refinement.Goals as goal

pub returns-clause-as_they_are : goal.returns-clause-as_they_are
returns-clause-as_they_are c = λ s m spec impl a b. (refines_on s spec spec impl impl (0, itself) (0, itself) m b, refines_back s spec spec impl impl (0, itself) (0, itself) m a)

pub returns-clause-unfolded : goal.returns-clause-unfolded
returns-clause-unfolded c = λ s m spec new_spec impl new_impl d e a b. (refines_on s spec new_spec impl new_impl d e m b, refines_back s spec new_spec impl new_impl d e m a)
