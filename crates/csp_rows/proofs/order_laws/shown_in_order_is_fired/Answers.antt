use Rattle.csp_rows.proofs.FiredInOrder.{shown_fired}
use Rattle.csp_rows.proofs.order_laws.shown_in_order_is_fired.Goals as goal

pub returns : goal.returns
returns c = shown_fired
