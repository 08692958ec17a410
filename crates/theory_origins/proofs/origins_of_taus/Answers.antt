use Rattle.std.proofs.Common.{refl}
use Rattle.theory_semantics.specs.Meaning.Transitions.{skip, call, internal_left, internal_right, sequential_tick, sliding_tau, sliding_away, replicated_internal}
use Rattle.theory_origins.proofs.origins_of_taus.Goals as goal

pub returns-clause-unfolds : goal.returns-clause-unfolds
returns-clause-unfolds c = (call refl, refl)

pub returns-clause-ends : goal.returns-clause-ends
returns-clause-ends c = (sequential_tick skip, refl)

pub returns-clause-slides : goal.returns-clause-slides
returns-clause-slides c = (sliding_away, refl)

pub returns-clause-stays : goal.returns-clause-stays
returns-clause-stays c = (sliding_tau internal_right, refl)

pub returns-clause-first : goal.returns-clause-first
returns-clause-first c = (replicated_internal _ _ refl internal_left, refl)

pub returns-clause-last : goal.returns-clause-last
returns-clause-last c = (replicated_internal _ _ refl internal_right, refl)
