use Rattle.std.proofs.Common.{◌-◌, ◌^◌, length, arith}
use Rattle.theory_shapes.specs.Alphabet.{field_lists}
use Rattle.csp_value.specs.Fields.{sets_of}
use Rattle.csp_numbers.proofs.Counting.{cut_fits}
use Rattle.csp_numbers.proofs.Choosing.{counted_all, lists_from, one_before, one_set_counted}
use Rattle.csp_numbers.proofs.lists_of_values.saturated_count.Goals as goal

pub loop-set-init : goal.loop-set-init
loop-set-init g c = record { fits = omega arith; counted = one_before (length (lists_from c.args.sets.now 0)) (2 ^ 64 - 1) }

pub loop-set-preserved : goal.loop-set-preserved
loop-set-preserved g c = record {
  fits = cut_fits c.saturating_mul-product.result _ (2 ^ 64 - 1) c.saturating_mul-product.ensures;
  counted =
      one_set_counted c.args.sets.now c.loop-set.set-index c.set-item.result c.loop-set-test.true c.set-item.is c.members-members.result.now c.members-members.ensures (2 ^ 64 - 1) c.loop-set.count c.saturating_mul-product.result c.loop-set.invariant.counted c.saturating_mul-product.ensures;
}

pub returns : goal.returns
returns g c =
    counted_all c.args.sets.now c.loop-set.set-index (2 ^ 64 - 1) c.loop-set.count (length (field_lists (sets_of c.args.sets.now))) c.loop-set.invariant.counted (omega (arith, c.loop-set-test.false)) c.loop-set.invariant.fits
