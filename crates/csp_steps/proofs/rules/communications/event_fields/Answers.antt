-- The copies so far, and one more.
use Rattle.csp_value.specs.Value.{value_of}
use Rattle.csp_value.proofs.Copying.{map_push}
use Rattle.csp_steps.proofs.rules.communications.event_fields.Goals as goal

pub loop-value-preserved : goal.loop-value-preserved
loop-value-preserved g c =
    map_push value_of (λ v. value_of v.now) c.loop-value.fields.items c.push.new.self.items c.in_ok-try_copy.field-0 c.args.values.now c.loop-value.value-index c.value-item.result
    c.loop-value.invariant c.loop-value-test.true c.value-item.is c.in_ok-try_copy.ensures c.in_ok-push.ensures.ok
