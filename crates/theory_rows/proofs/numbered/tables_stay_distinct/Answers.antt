use Rattle.theory_rows.proofs.Growing.{part_added, parts_added, process_added, shape_added}
use Rattle.theory_rows.proofs.numbered.tables_stay_distinct.Goals as goal

pub returns : goal.returns
returns c = record { shape = shape_added; part = part_added; parts = parts_added; process = process_added }
