-- The instances are made one by one.
use Rattle.std.proofs.Common.{arith}
use Rattle.csp_term.specs.Term.{process_of}
use Rattle.csp_faults.proofs.Instances.{all_made, one_more}
use Rattle.csp_faults.proofs.parts.instances.Goals as goal

pub loop-value-preserved : goal.loop-value-preserved
loop-value-preserved g c =
    one_more c.args.name.0 (process_of c.args.body.now) c.args.values.now c.loop-value.value-index c.loop-value.parts.items c.push.new.self.items c.in_ok-put_in.field-0 c.value-item.result
    c.loop-value-test.true c.value-item.is c.in_ok-put_in.ensures c.in_ok-push.ensures.items c.loop-value.invariant

pub returns : goal.returns
returns g c = all_made c.args.name.0 (process_of c.args.body.now) c.args.values.now c.loop-value.value-index c.loop-value.parts.items (omega arith) c.loop-value.invariant
