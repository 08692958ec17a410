use Rattle.theory_shapes.proofs.InTurn.{before_alike, before_end, before_first, before_next, run_stands, start_next}
use Rattle.theory_shapes.proofs.shapes.runs_stand_in_turn.Goals as goal

pub returns : goal.returns
returns c = record { first = before_first; next = before_next; last = before_end; alike = before_alike; starts = start_next; stands = run_stands }
