use Rattle.std.proofs.Common.{◌≢◌, get_or, rules}
use Rattle.csp_inference.specs.declared.chain.Layer.TheVariants as layer
use Rattle.csp_inference.proofs.Layers.{taken, taken_left_over, taken_right_over, taken_unlike}
use Rattle.csp_inference.proofs.state.without_like_beginning.Goals as goal
use Rattle.csp_inference.proofs.state.without_like_beginning.Goals.{then-loop-common-test+then-common-right+else-eq, then-loop-common-test+else-common-right, else-loop-common-test}

pub returns : goal.returns
returns c =
    let left = c.args.left.now in
    let right = c.args.right.now in
    let i = c.loop-common.common in
    taken left right i c.loop-common.invariant.same
    (elim c.loop-common-test.branch [
      | then-loop-common-test+then-common-right+else-eq w ↦
          (let differ : get_or left i layer.Sequence ≢ get_or right i layer.Sequence = search rules in
          taken_unlike left right i layer.Sequence w.loop-common-test.true w.if-common-right.true differ)
      | then-loop-common-test+else-common-right w ↦ taken_right_over left right i w.if-common-right.false
      | else-loop-common-test w ↦ taken_left_over left right i w.loop-common-test.false
    ])
