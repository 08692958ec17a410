use Rattle.theory_semantics.proofs.KindedSets.{same_value, same_members, same_expression}
use Rattle.theory_semantics.proofs.kinds.kinds_hang_on_datatypes.Goals as goal

pub returns-clause-values : goal.returns-clause-values
returns-clause-values c = λ types others same kinds. same_value types others kinds same

pub returns-clause-members : goal.returns-clause-members
returns-clause-members c = λ types others same kinds. same_members types others kinds same

pub returns-clause-expressions : goal.returns-clause-expressions
returns-clause-expressions c = λ types others same kinds. same_expression types others kinds same
