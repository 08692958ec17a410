use Rattle.csp_rows.proofs.OrderedSteps.{changing_rise, changing_rose, steps_changing}
use Rattle.csp_rows.proofs.order_laws.steps_are_ordered_by_changes.Goals as goal

pub returns : goal.returns
returns c = record { two = λ s parts m n long. steps_changing s parts long m n; rise = λ s parts ms long. (changing_rise s parts long ms, changing_rose s parts long ms) }
