use Rattle.std.proofs.Common.{◌+◌, ◌*◌}
use Rattle.csp_spell.proofs.read_events.+read_event_set.Given as goal

abbrev pub decreases-read_event_set : goal.decreases-read_event_set
decreases-read_event_set g l = 3 * l.depth

abbrev pub decreases-read_operands : goal.decreases-read_operands
decreases-read_operands g l = 3 * l.depth + 1

abbrev pub decreases-read_tagged : goal.decreases-read_tagged
decreases-read_tagged g l = 3 * l.depth + 2
