use Rattle.std.proofs.Common.{Some}
use Rattle.theory_rows.proofs.Loose.{done_would, listed_successors, short_would}
use Rattle.theory_rows.proofs.unordered.marks_hold_in_any_order.Goals as goal

pub returns : goal.returns
returns c = record { successors = λ script normal. listed_successors script (Some normal); done = done_would; short = short_would }
