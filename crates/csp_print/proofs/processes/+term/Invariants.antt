use Rattle.std.proofs.Common.{◌+◌, ◌*◌}
use Rattle.theory_semantics.specs.Meaning.Limits.{size}
use Rattle.csp_term.specs.Term.{process_of}
use Rattle.csp_print.proofs.processes.+term.Given as goal

abbrev pub decreases-push_term : goal.decreases-push_term
decreases-push_term g l = 3 * size (process_of l.term.now)

abbrev pub decreases-push_at : goal.decreases-push_at
decreases-push_at g l = 3 * size (process_of l.term.now) + 1

abbrev pub decreases-push_prefix : goal.decreases-push_prefix
decreases-push_prefix g l = 3 * size (process_of l.body.now) + 2

abbrev pub decreases-push_guard : goal.decreases-push_guard
decreases-push_guard g l = 3 * size (process_of l.body.now) + 2

abbrev pub decreases-push_if : goal.decreases-push_if
decreases-push_if g l = 3 * (size (process_of l.first.now) + size (process_of l.second.now)) + 2

abbrev pub decreases-push_chain : goal.decreases-push_chain
decreases-push_chain g l = 3 * (size (process_of l.left.now) + size (process_of l.right.now)) + 2

abbrev pub decreases-push_generalised : goal.decreases-push_generalised
decreases-push_generalised g l = 3 * (size (process_of l.left.now) + size (process_of l.right.now)) + 2

abbrev pub decreases-push_alphabetised : goal.decreases-push_alphabetised
decreases-push_alphabetised g l = 3 * (size (process_of l.left.now) + size (process_of l.right.now)) + 2

abbrev pub decreases-push_hiding : goal.decreases-push_hiding
decreases-push_hiding g l = 3 * size (process_of l.body.now) + 2

abbrev pub decreases-push_renaming : goal.decreases-push_renaming
decreases-push_renaming g l = 3 * size (process_of l.body.now) + 2

abbrev pub decreases-push_replicated : goal.decreases-push_replicated
decreases-push_replicated g l = 3 * size (process_of l.body.now) + 2
