use Rattle.theory_shapes.proofs.Numbered.{checked_rises, events_apart}
use Rattle.theory_shapes.proofs.alphabet.events_have_their_own_numbers.Goals as goal

pub returns-clause-rises : goal.returns-clause-rises
returns-clause-rises c = checked_rises

pub returns-clause-apart : goal.returns-clause-apart
returns-clause-apart c = events_apart
