use Rattle.theory_runs.proofs.Stops.{no_form_has_many}
use Rattle.theory_runs.proofs.stuck_runs.specifications_without_a_form.Goals as goal

pub returns : goal.returns
returns c = no_form_has_many
