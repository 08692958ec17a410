use Rattle.std.proofs.Common.{[]}
use Rattle.theory_spelling.proofs.ShortLists.{within_is_short}
use Rattle.theory_spelling.proofs.KindedSpelling.{spellable}
use Rattle.theory_spelling.proofs.well_kinded_terms_are_spellable.Goals as goal

pub returns-clause-kinded : goal.returns-clause-kinded
returns-clause-kinded c = spellable

pub returns-clause-of_script : goal.returns-clause-of_script
returns-clause-of_script c = λ script p is within range. spellable script is.0 [] p is.2 (within_is_short p within) range
