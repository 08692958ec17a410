use Rattle.theory_shapes.proofs.Listing.{alphabet_has, alphabet_is}
use Rattle.theory_shapes.proofs.alphabet.alphabet_has_all_events.Goals as goal

pub returns : goal.returns
returns c = λ script e. (alphabet_has script e, alphabet_is script e)
