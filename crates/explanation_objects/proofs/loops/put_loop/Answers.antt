-- The name, and in braces the place and the taus.
use Rattle.std.proofs.Common.{[], ◌∷◌}
use Rattle.std.specs.Prelude.{codes}
use Rattle.theory_objects.specs.Accounts.{steps_fields, taus_of}
use Rattle.theory_objects.specs.Fields.{number_field}
use Rattle.csp_print.specs.Names.{names_of}
use Rattle.counterexample.specs.Counterexample.{loop_of}
use Rattle.explanation_objects.proofs.Objects.{named_object}
use Rattle.explanation_objects.proofs.Putting.{put_both}
use Rattle.explanation_objects.proofs.loops.put_loop.Goals as goal

pub returns : goal.returns
returns g c =
    let loop = loop_of c.args.looping.now in
    let two = c.begin_object.new.self in
    let three = c.put_number.new.writer in
    let four = c.put_taus.new.writer in
    let back = number_field (codes "back") c.args.looping.now.back in
    let taus = steps_fields (names_of c.args.names.now) (taus_of loop) in
    named_object c.end_object.result c.args.writer.now c.key.new.self two four c.end_object.new.self (codes "loop") (back ∷ taus)
    (c.in_ok-key.ensures.room.0, c.in_ok-key.ensures.ok) (c.in_ok-begin_object.ensures.room.0, c.in_ok-begin_object.ensures.ok)
    (put_both two three four (back ∷ []) taus c.in_ok-put_number.ensures c.in_ok-put_taus.ensures) c.end_object.ensures
