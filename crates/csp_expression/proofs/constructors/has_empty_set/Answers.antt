-- A set without a value is among those that are left, until there are none.
use Rattle.std.proofs.Common.{refl, sym, ◌∙◌, arith}
use Rattle.csp_expression.proofs.Choosing.{empty_at, still_empty, no_value, some_value, none_left}
use Rattle.csp_expression.proofs.constructors.has_empty_set.Goals as goal

pub loop-set-init : goal.loop-set-init
loop-set-init g c = λ h. h

pub returns-then-is_empty : goal.returns-then-is_empty
returns-then-is_empty g c = (
  λ yes. empty_at c.args.sets.now c.loop-set.set-index c.set-item.result c.loop-set-test.true c.set-item.is
      (no_value c.members.result.now _ c.members.ensures (sym c.is_empty.ensures ∙ c.if-is_empty.true)),
  λ h. refl,
)

pub loop-set-preserved : goal.loop-set-preserved
loop-set-preserved g c =
    still_empty c.args.sets.now c.loop-set.set-index c.set-item.result c.loop-set-test.true c.set-item.is
    (some_value c.members.result.now _ c.members.ensures (sym c.is_empty.ensures ∙ c.if-is_empty.false)) c.loop-set.invariant

pub returns : goal.returns
returns g c = (λ no. absurd (cc no), λ h. absurd (none_left c.args.sets.now c.loop-set.set-index (omega arith) (c.loop-set.invariant h)))
