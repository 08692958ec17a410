-- Behind the text stands the line, or nothing.
use Rattle.std.proofs.Common.{◌≡◌, ◌++◌, Option, sym, subst, append-nil}
use Rattle.std.specs.String.{string_bytes}
use Rattle.csp_term.specs.Script.{property_of}
use Rattle.explain_program.specs.Telling.{size_text}
use Rattle.explain_program.specs.declared.search_size.SearchSize.{SearchSize}
use Rattle.explain_program.proofs.counting.with_size.Goals as goal

pub returns-in-None : goal.returns-in-None
returns-in-None g c =
    let text = string_bytes c.args.text in
    let P : Option SearchSize → Type 0 = λ size. text ≡ text ++ size_text (property_of c.args.property.now) size in
    subst P (sym c.in-None.is) (sym (append-nil text))
