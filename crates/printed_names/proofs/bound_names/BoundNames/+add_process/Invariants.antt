use Rattle.std.proofs.Common.{◌+◌, ◌*◌}
use Rattle.csp_parse.specs.Processes.{process_of}
use Rattle.csp_names.proofs.Sizes.{process_size}
use Rattle.printed_names.proofs.bound_names.BoundNames.+add_process.Given as goal

abbrev pub decreases-add_process : goal.decreases-add_process
decreases-add_process g l = 2 * process_size (process_of l.process.now)

abbrev pub decreases-add_both : goal.decreases-add_both
decreases-add_both g l = 2 * (process_size (process_of l.left.now) + process_size (process_of l.right.now)) + 1
