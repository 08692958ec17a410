-- That it is refused, and by what.
use Rattle.std.proofs.Common.{[], ◌∷◌}
use Rattle.std.specs.Prelude.{codes}
use Rattle.theory_objects.specs.Fields.{text_field}
use Rattle.explanation_objects.proofs.Putting.{both}
use Rattle.explanation_objects.proofs.refusals.put_refusal.Goals as goal

pub returns : goal.returns
returns g c =
    both c.put_text-2.result c.args.writer.now c.put_text.new.writer c.put_text-2.new.writer (text_field (codes "answer") (codes "refused") ∷ []) (text_field (codes "refusal") c.args.refusal.now ∷ []) c.in_ok-put_text.ensures
    c.put_text-2.ensures
