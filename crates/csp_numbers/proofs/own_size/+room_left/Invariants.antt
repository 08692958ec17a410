use Rattle.theory_semantics.specs.Meaning.Limits.{size}
use Rattle.csp_term.specs.Term.{process_of}
use Rattle.csp_numbers.proofs.own_size.+room_left.Given as goal

abbrev pub decreases-room_left : goal.decreases-room_left
decreases-room_left g l = size (process_of l.term.now)
