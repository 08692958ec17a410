use Rattle.csp_rows.proofs.OrderedSteps.{numbered_rise, numbered_rose}
use Rattle.csp_rows.proofs.order_laws.steps_are_ordered_by_numbers.Goals as goal

pub returns : goal.returns
returns c = λ z row pool steps rise numbered. (numbered_rise z rise row pool steps numbered, numbered_rose z rise row pool steps numbered)
