-- With a time, or without one.
use Rattle.std.proofs.Common.{ℕ, Option, sym, subst}
use Rattle.csp_print.specs.Writing.{Writes}
use Rattle.explain_program.specs.Costs.{amounts_text}
use Rattle.explain_program.proofs.costs.push_cost.Goals as goal

pub returns-in-Some : goal.returns-in-Some
returns-in-Some g c =
    let P : Option ℕ → Type 0 = λ time. Writes c.push_timed.result c.args.text.now c.push_timed.new.text (amounts_text time c.args.cost.kilobytes) in
    subst P (sym c.in-Some.is) c.push_timed.ensures

pub returns-in-None : goal.returns-in-None
returns-in-None g c =
    let P : Option ℕ → Type 0 = λ time. Writes c.push_untimed.result c.args.text.now c.push_untimed.new.text (amounts_text time c.args.cost.kilobytes) in
    subst P (sym c.in-None.is) c.push_untimed.ensures
