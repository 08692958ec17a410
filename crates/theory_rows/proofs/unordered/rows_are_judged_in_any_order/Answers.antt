use Rattle.std.proofs.Common.{Some}
use Rattle.theory_rows.proofs.Judged.{accepts_more, enough_allowed, enough_stored, enough_taus, event_least, offers_least}
use Rattle.theory_rows.proofs.unordered.rows_are_judged_in_any_order.Goals as goal

pub returns : goal.returns
returns c = record {
  allowed = enough_allowed;
  event = event_least;
  offers = offers_least;
  stored = enough_stored;
  more = λ script normal node. accepts_more script (Some normal) node;
  taus = enough_taus;
}
