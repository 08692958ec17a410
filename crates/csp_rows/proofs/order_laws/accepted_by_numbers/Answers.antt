use Rattle.csp_rows.proofs.FiredInOrder.{accepted_numbers}
use Rattle.csp_rows.proofs.order_laws.accepted_by_numbers.Goals as goal

pub returns : goal.returns
returns c = record {
  each = λ z pool steps actions rise numbered are. (accepted_numbers z pool steps actions rise numbered are).0;
  rise = λ z pool steps actions rise numbered are. (accepted_numbers z pool steps actions rise numbered are).1;
}
