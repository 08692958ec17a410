use Rattle.std.proofs.Common.{None, [], ◌∷◌}
use Rattle.theory_checking.specs.Inference.State.{unify_resolved}
use Rattle.theory_checking.proofs.Unifying.{under_sequences, under_sets, turned, longer_sequence, longer_set, is_unsolved, unify_right}
use Rattle.theory_checking.proofs.inference.kinds_cannot_be_one.Goals as goal

pub returns-clause-sequences : goal.returns-clause-sequences
returns-clause-sequences c = λ s c d h. under_sequences s c d None h

pub returns-clause-sets : goal.returns-clause-sets
returns-clause-sets c = λ s c d h. under_sets s c d None h

pub returns-clause-turned : goal.returns-clause-turned
returns-clause-turned c = λ s c d h. turned s c d None h

pub returns-clause-longer_sequence : goal.returns-clause-longer_sequence
returns-clause-longer_sequence c = λ s n c e. longer_sequence s n c e

pub returns-clause-longer_set : goal.returns-clause-longer_set
returns-clause-longer_set c = λ s n c e. longer_set s n c e

pub returns-clause-unlike : goal.returns-clause-unlike
returns-clause-unlike c = λ s c d resolved f g e. is_unsolved s ((c, d) ∷ []) (unify_resolved s c d) (unify_right s resolved c d f g) e
