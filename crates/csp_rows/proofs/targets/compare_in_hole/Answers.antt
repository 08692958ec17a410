use Rattle.std.proofs.Common.{◌∙◌, ap₂}
use Rattle.csp_rows.proofs.targets.compare_in_hole.Goals as goal

pub returns : goal.returns
returns g c = λ d. c.compare.ensures ∙ ap₂ (g.O.PartOrder.order c.args.parts.now) (c.part_after-left.ensures d) (c.part_after-right.ensures d)
