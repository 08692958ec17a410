-- The line of the note.
use Rattle.std.proofs.Common.{◌∙◌, sym, ap}
use Rattle.explain_program.specs.Refusals.{none_text}
use Rattle.explain_program.proofs.Refusing.{note_in_json}
use Rattle.explain_program.proofs.notes.none_text.Goals as goal

pub returns-in-Json : goal.returns-in-Json
returns-in-Json c = note_in_json ∙ sym (ap none_text c.in-Json.is)
