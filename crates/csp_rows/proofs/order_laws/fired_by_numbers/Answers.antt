use Rattle.csp_rows.proofs.FiredInOrder.{fired_numbers}
use Rattle.csp_rows.proofs.order_laws.fired_by_numbers.Goals as goal

pub returns : goal.returns
returns c = fired_numbers
