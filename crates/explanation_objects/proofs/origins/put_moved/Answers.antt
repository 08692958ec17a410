-- The way, and behind it the kind.
use Rattle.std.proofs.Common.{[], ◌∷◌, map}
use Rattle.std.specs.Prelude.{codes}
use Rattle.theory_objects.specs.Accounts.{way_field}
use Rattle.theory_objects.specs.Fields.{text_field}
use Rattle.csp_moves.specs.Passage.{side_of}
use Rattle.explanation_objects.proofs.Putting.{both}
use Rattle.explanation_objects.proofs.origins.put_moved.Goals as goal

pub returns : goal.returns
returns g c =
    both c.put_text.result c.args.writer.now c.put_way.new.writer c.put_text.new.writer (way_field (map side_of c.args.way.now) ∷ []) (text_field (codes "kind") c.args.kind.now ∷ []) c.in_ok-put_way.ensures c.put_text.ensures
