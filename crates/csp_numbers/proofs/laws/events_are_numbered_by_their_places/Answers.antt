use Rattle.csp_numbers.proofs.Numbered.{numbered}
use Rattle.csp_numbers.proofs.laws.events_are_numbered_by_their_places.Goals as goal

pub returns : goal.returns
returns c = numbered
