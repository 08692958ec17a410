-- The values are kept one by one.
use Rattle.std.proofs.Common.{sym, ◌∙◌}
use Rattle.csp_value.specs.Fields.{field_values}
use Rattle.csp_faults.proofs.Kept.{left_out, one_more}
use Rattle.csp_faults.proofs.fields.within.Goals.{then-contains+in_ok-try_copy+in_ok-push, else-contains}
use Rattle.csp_faults.proofs.fields.within.Goals as goal

pub loop-value-preserved : goal.loop-value-preserved
loop-value-preserved g c =
    let set = field_values c.args.set.now in
    let xs = c.args.values.now in
    let i = c.loop-value.value-index in
    let made = c.loop-value.within.items in
    let v = c.value-item.result in
    elim c.if-contains.branch [
      | then-contains+in_ok-try_copy+in_ok-push w ↦
          rw (w.within-is) (one_more set xs i made v c.loop-value-test.true c.value-item.is c.loop-value.invariant w.push.new.self.items w.in_ok-try_copy.field-0 (sym c.contains.ensures ∙ w.if-contains.true) w.in_ok-try_copy.ensures w.in_ok-push.ensures.items)
      | else-contains w ↦
          rw (w.within-is) (left_out set xs i made v c.loop-value-test.true c.value-item.is c.loop-value.invariant (sym c.contains.ensures ∙ w.if-contains.false))
    ]
