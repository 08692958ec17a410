-- The line has the fields in braces.
use Rattle.theory_objects.specs.Answers.{answer_fields}
use Rattle.csp_term.specs.Script.{property_of}
use Rattle.csp_print.specs.Names.{names_of}
use Rattle.explanation_objects.specs.Answers.{answered_of, sizes_told}
use Rattle.explanation_objects.proofs.Closing.{closed}
use Rattle.explanation_objects.proofs.answers.answer_line.Goals as goal

pub returns : goal.returns
returns g c =
    let a = c.args.answered.now in
    closed c.end_line.result c.in_ok-writer.writer c.put_answer.new.writer (answer_fields (names_of c.args.names.now) (answered_of a) (sizes_told (property_of a.assertion.now.property) a.size)) c.in_ok-writer.ensures
    c.in_ok-put_answer.ensures c.end_line.ensures
