use Rattle.theory_semantics.proofs.WorkedFreedom.{unfolding_violates, repeating_is_free, hidden_violates}
use Rattle.theory_semantics.proofs.freedom_of_divergence.Goals as goal

pub returns-clause-unfolding : goal.returns-clause-unfolding
returns-clause-unfolding c = unfolding_violates

pub returns-clause-repeating : goal.returns-clause-repeating
returns-clause-repeating c = repeating_is_free

pub returns-clause-hidden : goal.returns-clause-hidden
returns-clause-hidden c = hidden_violates
