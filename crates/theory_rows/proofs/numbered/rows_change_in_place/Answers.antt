use Rattle.theory_rows.proofs.InPlace.{changed_in_place, same_parts_in}
use Rattle.theory_rows.proofs.numbered.rows_change_in_place.Goals as goal

pub returns : goal.returns
returns c = record { parts = λ z t ns stands among. same_parts_in z t stands ns among; row = λ z t r cs stands is are. changed_in_place z t stands r cs is are }
