use Rattle.theory_semantics.proofs.Causes.{external_cause, sequential_cause, interleaving_cause, interrupt_cause, sliding_cause, generalised_cause, alphabetised_cause, if_cause, replicated_external_cause, replicated_internal_cause, replicated_interleaving_cause}
use Rattle.theory_semantics.proofs.causes_of_parts.Goals as goal

pub returns-clause-external : goal.returns-clause-external
returns-clause-external c = λ s p q. external_cause s p q

pub returns-clause-sequential : goal.returns-clause-sequential
returns-clause-sequential c = λ s p q. sequential_cause s p q

pub returns-clause-interleaving : goal.returns-clause-interleaving
returns-clause-interleaving c = λ s p q. interleaving_cause s p q

pub returns-clause-interrupt : goal.returns-clause-interrupt
returns-clause-interrupt c = λ s p q. interrupt_cause s p q

pub returns-clause-generalised : goal.returns-clause-generalised
returns-clause-generalised c = λ s p q a. generalised_cause s p a q

pub returns-clause-alphabetised : goal.returns-clause-alphabetised
returns-clause-alphabetised c = λ s p q a b. alphabetised_cause s p a b q

pub returns-clause-either : goal.returns-clause-either
returns-clause-either c = if_cause

pub returns-clause-replicated_external : goal.returns-clause-replicated_external
returns-clause-replicated_external c = replicated_external_cause

pub returns-clause-replicated_internal : goal.returns-clause-replicated_internal
returns-clause-replicated_internal c = replicated_internal_cause

pub returns-clause-replicated_interleaving : goal.returns-clause-replicated_interleaving
returns-clause-replicated_interleaving c = replicated_interleaving_cause

pub returns-clause-sliding : goal.returns-clause-sliding
returns-clause-sliding c = sliding_cause
