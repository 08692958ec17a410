use Rattle.theory_semantics.specs.Meaning.Limits.{size}
use Rattle.csp_term.specs.Term.{process_of}
use Rattle.csp_numbers.proofs.numbered_shape.+shape_from.Given as goal

abbrev pub decreases-shape_from : goal.decreases-shape_from
decreases-shape_from g l = size (process_of l.term.now)
