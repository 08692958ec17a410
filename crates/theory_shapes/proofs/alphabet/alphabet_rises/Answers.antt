use Rattle.theory_shapes.proofs.Rising.{rises}
use Rattle.theory_shapes.proofs.alphabet.alphabet_rises.Goals as goal

pub returns : goal.returns
returns c = rises
