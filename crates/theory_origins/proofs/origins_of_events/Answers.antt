use Rattle.std.proofs.Common.{refl, [], ◌∷◌}
use Rattle.theory_syntax.proofs.Members.{contains_here}
use Rattle.theory_semantics.specs.Meaning.Transitions.{hiding_hidden, renaming_event, generalised_both}
use Rattle.theory_origins.specs.Worked.{event}
use Rattle.theory_origins.proofs.WorkedRows.{a_done}
use Rattle.theory_origins.proofs.origins_of_events.Goals as goal

pub returns-clause-hidden : goal.returns-clause-hidden
returns-clause-hidden c = (hiding_hidden refl a_done, refl)

pub returns-clause-renamed : goal.returns-clause-renamed
returns-clause-renamed c = (hiding_hidden refl (renaming_event (contains_here (event 1) (event 1 ∷ [])) a_done), refl)

pub returns-clause-together : goal.returns-clause-together
returns-clause-together c = (generalised_both refl a_done a_done, refl)
