use Rattle.csp_rows.proofs.OrderedNumbers.{actions_numbered, actions_rise, lists_numbered, offers_rise}
use Rattle.csp_rows.proofs.order_laws.actions_are_ordered_by_numbers.Goals as goal

pub returns : goal.returns
returns c = record {
  two = λ z x y rise. actions_numbered z rise x y;
  lists = λ z xs ys rise. lists_numbered z rise xs ys;
  rise = λ z xs rise. actions_rise z rise xs;
  offers = λ z offers rise. offers_rise z rise offers;
}
