-- The line has the fields in braces.
use Rattle.theory_objects.specs.Refusals.{unread_fields}
use Rattle.explanation_objects.proofs.Closing.{closed}
use Rattle.explanation_objects.proofs.refusals.unread_line.Goals as goal

pub returns : goal.returns
returns g c = closed c.end_line.result c.in_ok-writer.writer c.put_unread.new.writer (unread_fields c.args.file.now c.args.reason.now) c.in_ok-writer.ensures c.in_ok-put_unread.ensures c.end_line.ensures
