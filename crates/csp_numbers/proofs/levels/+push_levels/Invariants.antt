use Rattle.theory_semantics.specs.Meaning.Limits.{size}
use Rattle.csp_term.specs.Term.{process_of}
use Rattle.csp_numbers.proofs.levels.+push_levels.Given as goal

abbrev pub decreases-push_levels : goal.decreases-push_levels
decreases-push_levels g l = size (process_of l.term.now)
