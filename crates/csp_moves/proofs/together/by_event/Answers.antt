-- What the target has on either side, or on both, is where a side, or both, may lead.
use Rattle.std.proofs.Common.{◌∙◌}
use Rattle.csp_moves.specs.Sides.{sides_split}
use Rattle.csp_moves.specs.Way.{lent_process}
use Rattle.csp_moves.proofs.Found.{if_so, three_same}
use Rattle.csp_moves.proofs.together.by_event.Goals as goal

pub returns : goal.returns
returns g c =
    if_so c.three_ways.result c.three_ways.ensures
    (λ ways is. (
      lent_process c.left_where-left.result,
      lent_process c.right_where-right.result,
      sides_split c.both_where-both.result,
      c.left_where-left.ensures,
      c.right_where-right.ensures,
      c.both_where-both.ensures,
      is ∙ three_same _ _ _ _ _ _ c.to_side-by_left.ensures c.to_side-by_right.ensures c.by_both-together.ensures,
    ))
