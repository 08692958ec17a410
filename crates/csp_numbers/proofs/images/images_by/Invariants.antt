use Rattle.csp_numbers.proofs.Imaging.{HaveFirstImages}
use Rattle.csp_numbers.proofs.images.images_by.Given as goal

abbrev pub invariant-loop-place : goal.invariant-loop-place
invariant-loop-place g l = HaveFirstImages l.alphabet l.pairs l.place l.images.items
