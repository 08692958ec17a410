use Rattle.std.proofs.Common.{refl}
use Rattle.theory_semantics.specs.Meaning.Transitions.{internal_left, internal_right}
use Rattle.theory_origins.proofs.WorkedRows.{chosen, unfolded}
use Rattle.theory_origins.proofs.all_origins_of_small_steps.Goals as goal

pub returns-clause-either : goal.returns-clause-either
returns-clause-either c = chosen

pub returns-clause-left : goal.returns-clause-left
returns-clause-left c = (internal_left, refl)

pub returns-clause-right : goal.returns-clause-right
returns-clause-right c = (internal_right, refl)

pub returns-clause-unfolds : goal.returns-clause-unfolds
returns-clause-unfolds c = unfolded
