-- The first binding of the name is the one that counts.
use Rattle.std.proofs.Common.{sym, ◌∙◌}
use Rattle.csp_value.specs.Value.{value_of}
use Rattle.csp_expression.proofs.Looking.{bound_here, bound_later}
use Rattle.csp_expression.proofs.substitution.bound.Goals as goal

pub returns-then-eq : goal.returns-then-eq
returns-then-eq g c =
    bound_here (λ b. b.name.0) (λ b. value_of b.value.now) c.args.name.0 c.args.bindings.now c.loop-binding.binding-index c.binding-item.result c.loop-binding-test.true c.binding-item.is c.loop-binding.invariant (sym c.eq.ensures ∙ c.if-eq.true)

pub loop-binding-preserved : goal.loop-binding-preserved
loop-binding-preserved g c =
    bound_later (λ b. b.name.0) (λ b. value_of b.value.now) c.args.name.0 c.args.bindings.now c.loop-binding.binding-index c.binding-item.result c.loop-binding-test.true c.binding-item.is c.loop-binding.invariant (sym c.eq.ensures ∙ c.if-eq.false)
