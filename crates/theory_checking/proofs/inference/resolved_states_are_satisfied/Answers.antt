use Rattle.theory_semantics.specs.Kinds.Kind.{IntKind}
use Rattle.theory_checking.proofs.Unifying.{chosen}
use Rattle.theory_checking.proofs.inference.resolved_states_are_satisfied.Goals as goal

pub returns-clause-some : goal.returns-clause-some
returns-clause-some c = λ s resolved. let x = chosen s (λ n. IntKind) resolved in (x.0, x.1)

pub returns-clause-chosen : goal.returns-clause-chosen
returns-clause-chosen c = λ s a resolved. chosen s a resolved
