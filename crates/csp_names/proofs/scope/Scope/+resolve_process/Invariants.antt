use Rattle.std.proofs.Common.{◌+◌, ◌*◌}
use Rattle.csp_parse.specs.Processes.{process_of}
use Rattle.csp_names.proofs.Sizes.{process_size}
use Rattle.csp_names.proofs.scope.Scope.+resolve_process.Given as goal

abbrev pub decreases-resolve_process : goal.decreases-resolve_process
decreases-resolve_process g l = 2 * process_size (process_of l.process.now)

abbrev pub decreases-resolve_prefix : goal.decreases-resolve_prefix
decreases-resolve_prefix g l = 2 * process_size (process_of l.body.now) + 1

abbrev pub decreases-resolve_guard : goal.decreases-resolve_guard
decreases-resolve_guard g l = 2 * process_size (process_of l.body.now) + 1

abbrev pub decreases-resolve_if : goal.decreases-resolve_if
decreases-resolve_if g l = 2 * (process_size (process_of l.first.now) + process_size (process_of l.second.now)) + 1

abbrev pub decreases-resolve_infix : goal.decreases-resolve_infix
decreases-resolve_infix g l = 2 * (process_size (process_of l.left.now) + process_size (process_of l.right.now)) + 1

abbrev pub decreases-resolve_generalised : goal.decreases-resolve_generalised
decreases-resolve_generalised g l = 2 * (process_size (process_of l.left.now) + process_size (process_of l.right.now)) + 1

abbrev pub decreases-resolve_alphabetised : goal.decreases-resolve_alphabetised
decreases-resolve_alphabetised g l = 2 * (process_size (process_of l.left.now) + process_size (process_of l.right.now)) + 1

abbrev pub decreases-resolve_hiding : goal.decreases-resolve_hiding
decreases-resolve_hiding g l = 2 * process_size (process_of l.body.now) + 1

abbrev pub decreases-resolve_renaming : goal.decreases-resolve_renaming
decreases-resolve_renaming g l = 2 * process_size (process_of l.body.now) + 1

abbrev pub decreases-resolve_replicated : goal.decreases-resolve_replicated
decreases-resolve_replicated g l = 2 * process_size (process_of l.body.now) + 1
