use Rattle.theory_spelling.proofs.Again.{process_again}
use Rattle.theory_spelling.proofs.Laws.{term_again}
use Rattle.theory_spelling.proofs.spelled_is_read_again.Goals as goal

pub returns : goal.returns
returns c = record { front = λ p rest n fits le. process_again n p le fits rest; whole = term_again }
