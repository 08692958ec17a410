use Rattle.csp_rows.proofs.Frames.{renamed_next}
use Rattle.csp_rows.proofs.framed.rename.Goals as goal

pub loop-place-preserved : goal.loop-place-preserved
loop-place-preserved g c =
    renamed_next c.args.images.now.images.items c.args.steps.now.items c.loop-place.steps.items c.args.body c.loop-place.place c.loop-place.invariant c.requires.in_bounds.1 c.add_renamed.new.all.items _ c.index-step.result.now c.loop-place-test.true
    c.index-step.ensures c.in_ok-add_renamed.ensures
