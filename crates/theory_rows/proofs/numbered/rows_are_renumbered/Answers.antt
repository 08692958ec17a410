use Rattle.theory_rows.proofs.Growing.{carries_later, row_carried}
use Rattle.theory_rows.proofs.numbered.rows_are_renumbered.Goals as goal

pub returns : goal.returns
returns c = record { rows = row_carried; later = carries_later }
