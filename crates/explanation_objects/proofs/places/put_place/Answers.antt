-- The line, and behind it the column.
use Rattle.std.proofs.Common.{[], ◌∷◌}
use Rattle.std.specs.Prelude.{codes}
use Rattle.theory_objects.specs.Fields.{number_field}
use Rattle.explanation_objects.proofs.Putting.{both}
use Rattle.explanation_objects.proofs.places.put_place.Goals as goal

pub returns : goal.returns
returns g c =
    both c.put_number-2.result c.args.writer.now c.put_number.new.writer c.put_number-2.new.writer (number_field (codes "line") c.args.place.line ∷ []) (number_field (codes "column") c.args.place.column ∷ []) c.in_ok-put_number.ensures c.put_number-2.ensures
