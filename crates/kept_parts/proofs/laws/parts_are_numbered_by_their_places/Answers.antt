use Rattle.kept_parts.proofs.Serving.{numbering}
use Rattle.kept_parts.proofs.laws.parts_are_numbered_by_their_places.Goals as goal

pub returns : goal.returns
returns c = numbering
