use Rattle.theory_rows.proofs.Loose.{batch_entries, exact_loose, exact_stays, loose_batch, loose_form}
use Rattle.theory_rows.proofs.unordered.batches_in_any_order_stand_for_batches.Goals as goal

pub returns : goal.returns
returns c = record { form = loose_form; exact = λ script t form is. (exact_loose script t form is, exact_stays script t form is); batch = loose_batch; entries = batch_entries }
