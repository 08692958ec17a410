use Rattle.std.proofs.Common.{length, ◌+◌, ◌*◌}
use Rattle.csp_parse.specs.Reading.{left_of}
use Rattle.csp_parse.proofs.parsers.Parser.+event_set.Given as goal

abbrev pub decreases-combined_set : goal.decreases-combined_set
decreases-combined_set g l = 2 * length (left_of l.self.now)

abbrev pub decreases-event_set : goal.decreases-event_set
decreases-event_set g l = 2 * length (left_of l.self.now) + 1

abbrev pub decreases-event_set_behind : goal.decreases-event_set_behind
decreases-event_set_behind g l = 2 * length (left_of l.self.now)
