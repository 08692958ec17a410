-- The name, and the sides in brackets.
use Rattle.std.proofs.Common.{map}
use Rattle.std.specs.Prelude.{codes}
use Rattle.theory_explanation.specs.Legend.{side_text}
use Rattle.csp_moves.specs.Passage.{side_of}
use Rattle.explanation_objects.proofs.Putting.{listed}
use Rattle.explanation_objects.proofs.ways.put_way.Goals as goal

pub returns : goal.returns
returns g c =
    listed c.end_array.result c.args.writer.now c.key.new.self c.begin_array.new.self c.put_sides.new.writer c.end_array.new.self (codes "way") (map side_text (map side_of c.args.way.now))
    (c.in_ok-key.ensures.room.0, c.in_ok-key.ensures.ok) (c.in_ok-begin_array.ensures.room.0, c.in_ok-begin_array.ensures.ok) c.in_ok-put_sides.ensures c.end_array.ensures
