use Rattle.theory_syntax.proofs.Orders.{action_total}
use Rattle.theory_syntax.proofs.actions_are_ordered.Goals as goal

pub returns : goal.returns
returns c = action_total
