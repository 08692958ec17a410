use Rattle.std.proofs.Common.{rules}
use Rattle.kept_parts.proofs.Keeping.{earlier_read}
use Rattle.kept_parts.proofs.known_parts.KnownParts.turn_to.Goals as goal

-- the shape that was read at the place
pub returns-clause-last : goal.returns-clause-last
returns-clause-last g c = search (earlier_read, rules)
