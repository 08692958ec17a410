use Rattle.theory_rows.proofs.Growing.{extends_both, extends_none, grafts_stay, known_stays, row_stays}
use Rattle.theory_rows.proofs.numbered.tables_grow.Goals as goal

pub returns : goal.returns
returns c = record { none = extends_none; both = extends_both; rows = row_stays; known = known_stays; grafts = grafts_stay }
