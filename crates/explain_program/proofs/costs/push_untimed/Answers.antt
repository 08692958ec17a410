-- The memory, or nothing.
use Rattle.std.proofs.Common.{◌≡◌, ◌++◌, ℕ, Option, None, sym, subst, append-nil}
use Rattle.std.specs.String.{string_bytes}
use Rattle.csp_print.specs.Writing.{Writes}
use Rattle.explain_program.specs.Costs.{amounts_text}
use Rattle.explain_program.proofs.costs.push_untimed.Goals as goal

pub returns-in-Some : goal.returns-in-Some
returns-in-Some g c =
    let P : Option ℕ → Type 0 = λ memory. Writes c.push_memory_alone.result c.args.text.now c.push_memory_alone.new.text (amounts_text None memory) in
    subst P (sym c.in-Some.is) c.push_memory_alone.ensures

pub returns-in-None : goal.returns-in-None
returns-in-None g c =
    let text = string_bytes c.args.text.now in
    let P : Option ℕ → Type 0 = λ memory. text ≡ text ++ amounts_text None memory in
    subst P (sym c.in-None.is) (sym (append-nil text))
