use Rattle.std.proofs.Common.{[], ◌∷◌, refl}
use Rattle.theory_semantics.specs.Kinds.Kind.{IntKind}
use Rattle.theory_semantics.proofs.BitTypes.{second_is_one, well_kinded}
use Rattle.theory_semantics.proofs.kinds.kinds_of_constructors.Goals as goal

pub returns-clause-given : goal.returns-clause-given
returns-clause-given c = (second_is_one, (IntKind ∷ [], refl, (tt, tt)))

pub returns-clause-value : goal.returns-clause-value
returns-clause-value c = (second_is_one, (IntKind ∷ [], refl, (tt, tt)))

pub returns-clause-all : goal.returns-clause-all
returns-clause-all c = (refl, (0 ∷ 1 ∷ [], refl))

pub returns-clause-script : goal.returns-clause-script
returns-clause-script c = well_kinded
