use Rattle.csp_rows.proofs.OrderedNumbers.{events_rise}
use Rattle.csp_rows.proofs.order_laws.events_are_ordered_by_places.Goals as goal

pub returns : goal.returns
returns c = events_rise
