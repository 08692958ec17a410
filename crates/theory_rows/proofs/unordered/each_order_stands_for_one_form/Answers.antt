use Rattle.theory_rows.proofs.Forms.{one_form, shown_fired, steps_members}
use Rattle.theory_rows.proofs.unordered.each_order_stands_for_one_form.Goals as goal

pub returns : goal.returns
returns c = record { fired = shown_fired; one = one_form; members = λ script t steps offers shown z. steps_members steps z }
