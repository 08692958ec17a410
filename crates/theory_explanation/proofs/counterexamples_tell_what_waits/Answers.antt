use Rattle.theory_explanation.proofs.Waiting.{parts_wait}
use Rattle.theory_explanation.proofs.counterexamples_tell_what_waits.Goals as goal

pub returns : goal.returns
returns c = parts_wait
