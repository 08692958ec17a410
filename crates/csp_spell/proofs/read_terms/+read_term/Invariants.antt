use Rattle.std.proofs.Common.{◌+◌, ◌*◌}
use Rattle.csp_spell.proofs.read_terms.+read_term.Given as goal

abbrev pub decreases-read_term : goal.decreases-read_term
decreases-read_term g l = 3 * l.depth

abbrev pub decreases-read_tagged : goal.decreases-read_tagged
decreases-read_tagged g l = 3 * l.depth + 2

abbrev pub decreases-read_prefix : goal.decreases-read_prefix
decreases-read_prefix g l = 3 * l.depth + 1

abbrev pub decreases-read_guard : goal.decreases-read_guard
decreases-read_guard g l = 3 * l.depth + 1

abbrev pub decreases-read_if : goal.decreases-read_if
decreases-read_if g l = 3 * l.depth + 1

abbrev pub decreases-read_operands : goal.decreases-read_operands
decreases-read_operands g l = 3 * l.depth + 1

abbrev pub decreases-read_generalised : goal.decreases-read_generalised
decreases-read_generalised g l = 3 * l.depth + 1

abbrev pub decreases-read_alphabetised : goal.decreases-read_alphabetised
decreases-read_alphabetised g l = 3 * l.depth + 1

abbrev pub decreases-read_hiding : goal.decreases-read_hiding
decreases-read_hiding g l = 3 * l.depth + 1

abbrev pub decreases-read_renaming : goal.decreases-read_renaming
decreases-read_renaming g l = 3 * l.depth + 1

abbrev pub decreases-read_replicated : goal.decreases-read_replicated
decreases-read_replicated g l = 3 * l.depth + 1

abbrev pub decreases-read_sliding : goal.decreases-read_sliding
decreases-read_sliding g l = 3 * l.depth + 1
