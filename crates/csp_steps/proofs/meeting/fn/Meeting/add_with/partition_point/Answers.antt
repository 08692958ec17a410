-- The derived order is that of the definitions.
use Rattle.std.proofs.Common.{◌∙◌}
use Rattle.csp_steps.proofs.Together.{told_before}
use Rattle.csp_steps.proofs.meeting.fn.Meeting.add_with.partition_point.Goals as goal

pub returns : goal.returns
returns g c =
    c.lt.ensures
    ∙ told_before g.row.A g.A.AllocHandle g.A.AllocHandle-dict g.A.Allocator g.A.Allocator-dict g.A.Clone g.A.Clone-dict (record { small = g.met.A.AllocHandle.small }) c.captures.left.now.action c.args.step.now.action
