-- Each field behind the other.
use Rattle.std.proofs.Common.{[], ◌∷◌, ◌++◌}
use Rattle.std.specs.Prelude.{codes}
use Rattle.theory_objects.specs.Answers.{place_fields}
use Rattle.theory_objects.specs.Fields.{text_field}
use Rattle.theory_objects.specs.Refusals.{help_fields, refusal_fields}
use Rattle.csp_lex.specs.Places.{place_of}
use Rattle.explanation_objects.proofs.Putting.{both}
use Rattle.explanation_objects.proofs.refusals.put_refused.Goals as goal

pub returns : goal.returns
returns g c =
    let it = c.args.refused.now in
    let r = c.put_text-3.result in
    let one = c.put_refusal.new.writer in
    let two = c.put_text.new.writer in
    let three = c.put_place.new.writer in
    let four = c.put_text-2.new.writer in
    let five = c.put_help.new.writer in
    let new = c.put_text-3.new.writer in
    let file = text_field (codes "file") it.file.now ∷ [] in
    let place = place_fields (place_of it.place) in
    let rule = text_field (codes "rule") it.rule.now ∷ [] in
    let help = help_fields it.help.now in
    let words = text_field (codes "words") it.words.now ∷ [] in
    both r c.args.writer.now one new (refusal_fields it.number.now) (file ++ (place ++ (rule ++ (help ++ words)))) c.in_ok-put_refusal.ensures
    (both r one two new file (place ++ (rule ++ (help ++ words))) c.in_ok-put_text.ensures
    (both r two three new place (rule ++ (help ++ words)) c.in_ok-put_place.ensures
    (both r three four new rule (help ++ words) c.in_ok-put_text-2.ensures (both r four five new help words c.in_ok-put_help.ensures c.put_text-3.ensures))))
