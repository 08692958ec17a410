use Rattle.theory_spelling.proofs.OfSpellable.{packable, in_range}
use Rattle.theory_spelling.proofs.spellable_terms_are_short_and_in_range.Goals as goal

pub returns-clause-short : goal.returns-clause-short
returns-clause-short c = packable

pub returns-clause-range : goal.returns-clause-range
returns-clause-range c = in_range
