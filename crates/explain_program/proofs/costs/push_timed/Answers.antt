-- With the memory, or without it.
use Rattle.std.proofs.Common.{ℕ, Option, Some, sym, subst}
use Rattle.csp_print.specs.Writing.{Writes}
use Rattle.explain_program.specs.Costs.{amounts_text}
use Rattle.explain_program.proofs.costs.push_timed.Goals as goal

pub returns-in-Some : goal.returns-in-Some
returns-in-Some g c =
    let P : Option ℕ → Type 0 = λ memory. Writes c.push_both.result c.args.text.now c.push_both.new.text (amounts_text (Some c.args.milliseconds) memory) in
    subst P (sym c.in-Some.is) c.push_both.ensures

pub returns-in-None : goal.returns-in-None
returns-in-None g c =
    let P : Option ℕ → Type 0 = λ memory. Writes c.push_time_alone.result c.args.text.now c.push_time_alone.new.text (amounts_text (Some c.args.milliseconds) memory) in
    subst P (sym c.in-None.is) c.push_time_alone.ensures
