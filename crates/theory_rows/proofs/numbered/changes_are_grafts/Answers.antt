use Rattle.theory_rows.proofs.Changes.{changes_grafts}
use Rattle.theory_rows.proofs.numbered.changes_are_grafts.Goals as goal

pub returns : goal.returns
returns c = λ d s cs e. changes_grafts d 0 0 s cs e
