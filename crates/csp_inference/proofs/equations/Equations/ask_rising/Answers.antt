use Rattle.std.proofs.Common.{sym, ◌∙◌}
use Rattle.csp_value.specs.Value.{values_of}
use Rattle.csp_inference.proofs.Adding.{if_ok}
use Rattle.csp_inference.proofs.AskingValues.{rising_adds_none, falling_adds_never}
use Rattle.csp_inference.proofs.equations.Equations.ask_rising.Goals as goal

pub returns-then-is_rising : goal.returns-then-is_rising
returns-then-is_rising g c = rising_adds_none c.args.self.now (values_of c.args.members.now) (sym c.is_rising.ensures ∙ c.if-is_rising.true)

pub returns-else-is_rising : goal.returns-else-is_rising
returns-else-is_rising g c =
    if_ok c.push_never.result
    (λ _. falling_adds_never c.args.self.now c.push_never.new.self (values_of c.args.members.now) (sym c.is_rising.ensures ∙ c.if-is_rising.false))
    c.push_never.ensures
