-- The name of the file, and the reason.
use Rattle.std.proofs.Common.{[], ◌∷◌, ◌++◌}
use Rattle.std.specs.Prelude.{codes}
use Rattle.theory_objects.specs.Fields.{text_field}
use Rattle.theory_objects.specs.Refusals.{refusal_fields}
use Rattle.explanation_objects.proofs.Putting.{both}
use Rattle.explanation_objects.proofs.refusals.put_unread.Goals as goal

pub returns : goal.returns
returns g c =
    let r = c.put_text-2.result in
    let one = c.put_refusal.new.writer in
    let two = c.put_text.new.writer in
    let new = c.put_text-2.new.writer in
    let file = text_field (codes "file") c.args.file.now ∷ [] in
    let reason = text_field (codes "reason") c.args.reason.now ∷ [] in
    both r c.args.writer.now one new (refusal_fields (codes "file")) (file ++ reason) c.in_ok-put_refusal.ensures (both r one two new file reason c.in_ok-put_text.ensures c.put_text-2.ensures)
