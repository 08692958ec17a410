use Rattle.std.proofs.Common.{◌+◌, ◌*◌}
use Rattle.theory_semantics.specs.Meaning.Limits.{size}
use Rattle.csp_term.specs.Term.{process_of}
use Rattle.counterexample.proofs.waiting.+parts.Given as goal

abbrev pub decreases-parts_in : goal.decreases-parts_in
decreases-parts_in g l = 2 * size (process_of l.term.now)

abbrev pub decreases-parts_of_both : goal.decreases-parts_of_both
decreases-parts_of_both g l = 2 * (size (process_of l.left.now) + size (process_of l.right.now)) + 1
