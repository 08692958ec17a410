use Rattle.theory_rows.proofs.Grafting.{shape_grafted}
use Rattle.theory_rows.proofs.Splicing.{parts_spliced}
use Rattle.theory_rows.proofs.numbered.moves_are_grafts.Goals as goal

pub returns : goal.returns
returns c = record { shape = λ d s. shape_grafted d 0 0 s; parts = parts_spliced }
