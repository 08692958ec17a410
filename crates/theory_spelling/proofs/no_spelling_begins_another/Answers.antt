use Rattle.theory_spelling.proofs.Laws.{beginnings, longer_is_none}
use Rattle.theory_spelling.proofs.no_spelling_begins_another.Goals as goal

pub returns : goal.returns
returns c = record { front = beginnings; longer = longer_is_none }
