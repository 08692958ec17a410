-- Values are put into each side.
use Rattle.csp_events.proofs.renaming_pair.RenamingPair.put_in.Goals as goal

pub returns : goal.returns
returns g c = λ i. record { from = c.in_ok-from.ensures i; to = c.in_ok-to.ensures i }
