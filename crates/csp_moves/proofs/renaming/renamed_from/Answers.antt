-- All events of which it is an image, where they are one at most, or those of the steps.
use Rattle.csp_moves.proofs.renaming.renamed_from.Goals as goal

pub returns-then-len-le1 : goal.returns-then-len-le1
returns-then-len-le1 g c = record { passing = λ e has. (c.in_ok-sources.ensures e).0 has; every = λ none fits e passes step. (c.in_ok-sources.ensures e).1 passes }
