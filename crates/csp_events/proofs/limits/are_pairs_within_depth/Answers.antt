-- Each pair so far is within the depth.
use Rattle.std.proofs.Common.{refl, arith}
use Rattle.csp_value.proofs.Walking.{one_more, one_beyond, none_beyond, told_beyond, told_within}
use Rattle.csp_events.proofs.EventMeasures.{pair_depth, pair_depths, pair_depths_step}
use Rattle.csp_events.proofs.limits.are_pairs_within_depth.Goals as goal

pub loop-pair-preserved : goal.loop-pair-preserved
loop-pair-preserved g c =
    one_more pair_depths pair_depth refl pair_depths_step c.args.pairs.now c.args.most c.loop-pair.pair-index c.pair-item.result c.loop-pair-test.true c.pair-item.is
    (told_within c.is_within_depth.result _ c.is_within_depth.ensures c.if-not-is_within_depth.false) c.loop-pair.invariant

pub returns-then-not-is_within_depth : goal.returns-then-not-is_within_depth
returns-then-not-is_within_depth g c = (
  λ no. absurd (cc no),
  λ all. absurd (one_beyond pair_depths pair_depth refl pair_depths_step c.args.pairs.now c.args.most c.loop-pair.pair-index c.pair-item.result c.loop-pair-test.true c.pair-item.is
      (told_beyond c.is_within_depth.result _ c.is_within_depth.ensures c.if-not-is_within_depth.true) all),
)

pub returns : goal.returns
returns g c = (λ yes. none_beyond pair_depths pair_depth refl pair_depths_step c.args.pairs.now c.args.most c.loop-pair.pair-index (omega arith) c.loop-pair.invariant, λ all. refl)
