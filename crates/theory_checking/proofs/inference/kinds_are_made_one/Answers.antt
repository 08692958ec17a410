use Rattle.std.proofs.Common.{Some, refl, [], ◌∷◌}
use Rattle.theory_checking.proofs.Unifying.{under_sequences, under_sets, turned, nothing_done, bound_unified}
use Rattle.theory_checking.proofs.inference.kinds_are_made_one.Goals as goal

pub returns-clause-sequences : goal.returns-clause-sequences
returns-clause-sequences c = λ s t c d h. under_sequences s c d (Some t) h

pub returns-clause-sets : goal.returns-clause-sets
returns-clause-sets c = λ s t c d h. under_sets s c d (Some t) h

pub returns-clause-turned : goal.returns-clause-turned
returns-clause-turned c = λ s t c d h. turned s c d (Some t) h

pub returns-clause-equal : goal.returns-clause-equal
returns-clause-equal c = λ s c resolved. nothing_done s ((c, c) ∷ []) resolved (λ a sat. (refl, tt))

pub returns-clause-bound : goal.returns-clause-bound
returns-clause-bound c = λ s n c resolved can. bound_unified s n c resolved can.0 can.1 can.2
