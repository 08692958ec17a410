-- One set more.
use Rattle.std.proofs.Common.{refl, arith, ap, subst}
use Rattle.std.specs.Prelude.{map}
use Rattle.std.proofs.lemmas.List.{take_all}
use Rattle.theory_checking.specs.Sets.{product_of_sizes}
use Rattle.csp_value.specs.Fields.{field_values}
use Rattle.csp_kinds.specs.Members.{IsCount}
use Rattle.csp_kinds.proofs.Counting.{count_and_one}
use Rattle.csp_kinds.proofs.channels.events_of.Goals as goal

pub loop-set-init : goal.loop-set-init
loop-set-init g c = (refl, omega arith)

pub loop-set-preserved : goal.loop-set-preserved
loop-set-preserved g c =
    count_and_one c.args.sets.now c.loop-set.set-index c.set-item.result c.members.result.now c.times-events.result c.loop-set-test.true c.set-item.is c.members.ensures (c.times-events.ensures _ c.loop-set.invariant)

pub returns : goal.returns
returns g c = subst (IsCount c.loop-set.events) (ap (λ xs. product_of_sizes (map field_values xs)) (take_all c.loop-set.set-index c.args.sets.now c.loop-set-test.false)) c.loop-set.invariant
