-- The size is told where it is asked for.
use Rattle.std.proofs.Common.{◌≡◌, ◌++◌, Bool, sym, subst, append-nil}
use Rattle.std.specs.Prelude.{IfOk}
use Rattle.std.specs.String.{string_bytes}
use Rattle.csp_term.specs.Script.{property_of}
use Rattle.explain_program.specs.Telling.{size_asked}
use Rattle.explain_program.proofs.telling.in_words.Goals as goal

pub returns-then-settings : goal.returns-then-settings
returns-then-settings g c =
    let words = string_bytes c.args.words in
    let F : Bool → Type 0 = λ count. IfOk c.with_size.result (λ text. string_bytes text ≡ words ++ size_asked count (property_of c.args.question.now.asked.now.property) c.args.answer.now.size) in
    subst F (sym c.if-settings.true) c.with_size.ensures

pub returns-else-settings : goal.returns-else-settings
returns-else-settings g c =
    let words = string_bytes c.args.words in
    let F : Bool → Type 0 = λ count. words ≡ words ++ size_asked count (property_of c.args.question.now.asked.now.property) c.args.answer.now.size in
    subst F (sym c.if-settings.false) (sym (append-nil words))
