use Rattle.std.proofs.Common.{[]}
use Rattle.theory_semantics.proofs.KindedSteps.{run_closed}
use Rattle.theory_spelling.proofs.ShortLists.{target_is_short, reached_is_short}
use Rattle.theory_spelling.proofs.KindedSpelling.{spellable}
use Rattle.theory_spelling.proofs.reached_terms_are_spellable.Goals as goal

pub returns-clause-target : goal.returns-clause-target
returns-clause-target c = target_is_short

pub returns-clause-short : goal.returns-clause-short
returns-clause-short c = λ script t path u run h. reached_is_short script path t u run h

pub returns-clause-spellable : goal.returns-clause-spellable
returns-clause-spellable c = λ script t path u is run h range.
    spellable script is.0 [] u (run_closed script is.0 is.1.sets is.1.equations path t u run is.2) (reached_is_short script path t u run h) range
