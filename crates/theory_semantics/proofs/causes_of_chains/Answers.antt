use Rattle.theory_semantics.proofs.Chains.{external_chain_cause, interleaving_chain_cause, internal_chain_cause}
use Rattle.theory_semantics.proofs.causes_of_chains.Goals as goal

pub returns-clause-external : goal.returns-clause-external
returns-clause-external c = external_chain_cause

pub returns-clause-interleaving : goal.returns-clause-interleaving
returns-clause-interleaving c = interleaving_chain_cause

pub returns-clause-internal : goal.returns-clause-internal
returns-clause-internal c = internal_chain_cause
