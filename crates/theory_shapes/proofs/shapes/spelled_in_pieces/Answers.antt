use Rattle.theory_shapes.proofs.Spelled.{piece_count, spelled_whole}
use Rattle.theory_shapes.proofs.shapes.spelled_in_pieces.Goals as goal

pub returns : goal.returns
returns c = record { whole = spelled_whole; count = piece_count }
