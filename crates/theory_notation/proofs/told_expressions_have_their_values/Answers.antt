use Rattle.std.proofs.Common.{refl}
use Rattle.theory_semantics.specs.Meaning.Evaluation.{value}
use Rattle.theory_notation.proofs.Telling.{has_its_value, set_stays, stays_without_types}
use Rattle.theory_notation.proofs.told_expressions_have_their_values.Goals as goal

pub returns-clause-value : goal.returns-clause-value
returns-clause-value c types names e = has_its_value types e (value types e) refl

pub returns-clause-written : goal.returns-clause-written
returns-clause-written c = stays_without_types

pub returns-clause-set : goal.returns-clause-set
returns-clause-set c types names e members = set_stays types e members
