use Rattle.theory_rows.proofs.Fired.{fired_past, fired_within}
use Rattle.theory_rows.proofs.numbered.rows_are_fired_by_numbers.Goals as goal

pub returns : goal.returns
returns c = record { within = λ script t r k fired all. fired_within script t r k fired all; past = λ script t r k x gs fired has past. fired_past script t r k fired x gs has past }
