-- The place and the sizes are those that are told.
use Rattle.std.proofs.Common.{◌≡◌, List, Option, map, subst, ap, ◌∙◌}
use Rattle.std.specs.Prelude.{IfOk}
use Rattle.std.specs.String.{string_bytes}
use Rattle.theory_text.specs.Place as pure
use Rattle.theory_objects.specs.Answers.{answer_fields}
use Rattle.theory_objects.specs.Fields.{Field, object_line}
use Rattle.csp_lex.specs.Places.{place_of}
use Rattle.csp_lex.specs.declared.places.Place.{Place}
use Rattle.csp_term.specs.Script.{assertion_of}
use Rattle.csp_print.specs.Names.{names_of}
use Rattle.verdict.specs.Outcome.{outcome_of}
use Rattle.explanation.specs.Accounts.{account_of}
use Rattle.explanation_objects.specs.Answers.{sizes_told}
use Rattle.explain_program.specs.Telling.{place_at}
use Rattle.explain_program.proofs.objects.object_line.Goals as goal

pub returns : goal.returns
returns g c =
    let n = c.args.question.now.number in
    let written = assertion_of c.args.question.now.written.now in
    let F : Option pure.Place → List Field → Type 0 = λ place sizes.
    IfOk c.answer_line.result
    (λ line. string_bytes line ≡ object_line (answer_fields (names_of c.args.named.now.names) (record { number = n; place = place; assertion = written; found = outcome_of c.args.answer.now.found; account = account_of c.args.told.now.account.now; words = c.args.told.now.words.now }) sizes)) in
    let at = c.place_at.ensures ∙ ap (λ (ps : List Place). place_at (map place_of ps) n) c.deref.ensures.value in
    subst (F (place_at (map place_of c.args.named.now.places.items) n)) (c.size_told.ensures written.property)
    (subst (λ place. F place (sizes_told written.property c.size_told.result)) at c.answer_line.ensures)
