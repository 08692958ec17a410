use Rattle.std.proofs.Common.{inl, inr}
use Rattle.theory_rows.proofs.Sending.{known_settled, known_stays, settled_first}
use Rattle.theory_rows.proofs.unordered.known_steps_need_not_be_sent.Goals as goal

pub returns : goal.returns
returns c = record {
  begun = λ script s plan j r x u distinct known. known_settled script s plan j r x u known.0 known.1 distinct known.2 (inl known.3);
  stays = known_stays;
  lesser = λ script s plan j r x u i q distinct known le. known_settled script s plan j r x u i q distinct known (inr le);
  all = settled_first;
}
