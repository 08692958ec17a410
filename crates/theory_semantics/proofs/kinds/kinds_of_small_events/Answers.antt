use Rattle.std.proofs.Common.{[], ◌∷◌, refl, inr}
use Rattle.theory_semantics.specs.Kinds.Kind.{IntKind}
use Rattle.theory_semantics.specs.Laws.Terms.{bits}
use Rattle.theory_semantics.proofs.kinds.kinds_of_small_events.Goals as goal

pub returns-clause-productions : goal.returns-clause-productions
returns-clause-productions c = ((IntKind ∷ [], refl, tt), ((IntKind ∷ IntKind ∷ [], refl, (tt, tt)), tt))

pub returns-clause-bare : goal.returns-clause-bare
returns-clause-bare c = inr (refl, refl, (bits ∷ [], refl, refl))
