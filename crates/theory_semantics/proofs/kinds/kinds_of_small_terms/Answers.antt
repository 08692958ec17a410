use Rattle.std.proofs.Common.{[], ◌∷◌, refl}
use Rattle.theory_semantics.specs.Kinds.Kind.{IntKind}
use Rattle.theory_semantics.proofs.kinds.kinds_of_small_terms.Goals as goal

pub returns-clause-bound : goal.returns-clause-bound
returns-clause-bound c = (IntKind ∷ [], refl, tt, (IntKind ∷ [], refl, (refl, tt), tt))

pub returns-clause-hides : goal.returns-clause-hides
returns-clause-hides c = (IntKind ∷ [], refl, tt, (IntKind ∷ [], refl, (refl, tt), tt))
