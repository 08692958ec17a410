use Rattle.theory_semantics.specs.Meaning.Limits.{size}
use Rattle.csp_term.specs.Term.{process_of}
use Rattle.csp_numbers.proofs.places.+push_places.Given as goal

abbrev pub decreases-push_places : goal.decreases-push_places
decreases-push_places g l = size (process_of l.term.now)
