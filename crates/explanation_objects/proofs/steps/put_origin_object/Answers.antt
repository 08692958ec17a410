-- The name, and the origin from the whole on.
use Rattle.std.proofs.Common.{[], ◌∷◌}
use Rattle.std.specs.Prelude.{codes}
use Rattle.theory_objects.specs.Accounts.{origin_fields}
use Rattle.csp_moves.specs.Origin.{origin_of}
use Rattle.csp_print.specs.Names.{names_of}
use Rattle.explanation_objects.proofs.Objects.{named_object}
use Rattle.explanation_objects.proofs.steps.put_origin_object.Goals as goal

pub returns : goal.returns
returns g c =
    named_object c.end_object.result c.args.writer.now c.key.new.self c.begin_object.new.self c.put_origin.new.writer c.end_object.new.self (codes "origin") (origin_fields (names_of c.args.names.now) [] (origin_of c.args.origin.now))
    (c.in_ok-key.ensures.room.0, c.in_ok-key.ensures.ok) (c.in_ok-begin_object.ensures.room.0, c.in_ok-begin_object.ensures.ok) c.in_ok-put_origin.ensures c.end_object.ensures
