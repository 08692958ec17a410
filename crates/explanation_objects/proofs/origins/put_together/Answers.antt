-- What moves, and the parts.
use Rattle.std.proofs.Common.{map}
use Rattle.std.specs.Prelude.{codes}
use Rattle.theory_origins.specs.Doers.{doers}
use Rattle.theory_objects.specs.Accounts.{doers_fields, moved_fields}
use Rattle.csp_moves.specs.Origin.{origin_of}
use Rattle.csp_moves.specs.Passage.{side_of}
use Rattle.csp_print.specs.Names.{names_of}
use Rattle.explanation_objects.proofs.Putting.{both}
use Rattle.explanation_objects.proofs.origins.put_together.Goals as goal

pub returns : goal.returns
returns g c =
    let way = map side_of c.args.way.now in
    both c.put_doers.result c.args.writer.now c.put_moved.new.writer c.put_doers.new.writer (moved_fields way (codes "together")) (doers_fields (names_of c.args.names.now) way (doers (origin_of c.args.origin.now)))
    c.in_ok-put_moved.ensures c.put_doers.ensures
