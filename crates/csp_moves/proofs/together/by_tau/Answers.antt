-- What the target has on either side is where a side may lead.
use Rattle.std.proofs.Common.{refl, ◌∙◌}
use Rattle.csp_moves.specs.Way.{lent_process}
use Rattle.csp_moves.proofs.Found.{four_same, if_so}
use Rattle.csp_moves.proofs.together.by_tau.Goals as goal

pub returns : goal.returns
returns g c =
    if_so c.four_ways.result c.four_ways.ensures
    (λ ways is. (
      lent_process c.left_of-left.result,
      lent_process c.right_of-right.result,
      c.left_of-left.ensures,
      c.right_of-right.ensures,
      is ∙ four_same _ _ _ _ _ _ _ _ c.to_side-by_left.ensures c.to_side-by_right.ensures refl refl,
    ))
