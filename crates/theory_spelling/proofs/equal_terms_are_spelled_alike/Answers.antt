use Rattle.std.proofs.Common.{ap}
use Rattle.theory_spelling.specs.Spelling.{spelling}
use Rattle.theory_spelling.proofs.Laws.{same_spelling}
use Rattle.theory_spelling.proofs.equal_terms_are_spelled_alike.Goals as goal

pub returns : goal.returns
returns c = λ p q fits fits_too. (same_spelling p q fits fits_too, ap spelling)
