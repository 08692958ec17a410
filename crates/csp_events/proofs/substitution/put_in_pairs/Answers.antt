-- Values are put into one more pair.
use Rattle.std.proofs.Common.{◌+◌, take, sym, ◌∙◌}
use Rattle.csp_expression.specs.Bindings.{bindings_of}
use Rattle.csp_events.specs.Events.{put_pair, renaming_pair_of}
use Rattle.csp_value.proofs.Copying.{map_push}
use Rattle.csp_events.proofs.EventPutting.{put_each_pair}
use Rattle.csp_events.proofs.substitution.put_in_pairs.Goals as goal

pub loop-pair-preserved : goal.loop-pair-preserved
loop-pair-preserved g c =
    let bs = bindings_of c.args.bindings.now in
    let so_far = c.loop-pair.invariant ∙ put_each_pair bs (take c.loop-pair.pair-index c.args.pairs.now) in
    map_push renaming_pair_of (λ x. put_pair bs (renaming_pair_of x)) c.loop-pair.all.items c.push.new.self.items c.in_ok-put_in.field-0 c.args.pairs.now c.loop-pair.pair-index c.pair-item.result
    so_far c.loop-pair-test.true c.pair-item.is c.in_ok-put_in.ensures c.in_ok-push.ensures.items
    ∙ sym (put_each_pair bs (take (c.loop-pair.pair-index + 1) c.args.pairs.now))
