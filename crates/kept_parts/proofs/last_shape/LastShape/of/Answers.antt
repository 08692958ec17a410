use Rattle.theory_spelling.proofs.ShortLists.{within_is_short}
use Rattle.csp_term.specs.Term.{process_of}
use Rattle.kept_parts.proofs.last_shape.LastShape.of.Goals as goal

pub pieces_of-requires : goal.pieces_of-requires
pieces_of-requires g c = within_is_short (process_of c.args.term.now) c.requires.within
