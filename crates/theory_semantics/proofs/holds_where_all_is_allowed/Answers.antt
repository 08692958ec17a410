use Rattle.theory_semantics.proofs.Refining.{holds_from_allowed, allowed_from_holds}
use Rattle.theory_semantics.proofs.holds_where_all_is_allowed.Goals as goal

pub returns-clause-enough : goal.returns-clause-enough
returns-clause-enough c = holds_from_allowed

pub returns-clause-needed : goal.returns-clause-needed
returns-clause-needed c = allowed_from_holds
