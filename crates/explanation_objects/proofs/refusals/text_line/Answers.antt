-- The line has the fields in braces.
use Rattle.theory_objects.specs.Refusals.{text_fields}
use Rattle.csp_lex.specs.Places.{place_of}
use Rattle.explanation_objects.proofs.Closing.{closed}
use Rattle.explanation_objects.proofs.refusals.text_line.Goals as goal

pub returns : goal.returns
returns g c =
    let it = c.args.refused.now in
    closed c.end_line.result c.in_ok-writer.writer c.put_refused.new.writer (text_fields it.file.now it.number.now it.rule.now (place_of it.place) it.help.now it.words.now) c.in_ok-writer.ensures
    c.in_ok-put_refused.ensures c.end_line.ensures
