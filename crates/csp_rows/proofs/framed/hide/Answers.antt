use Rattle.std.proofs.Common.{◌+◌, set, subst, sym}
use Rattle.csp_rows.specs.declared.step.Step.{Step}
use Rattle.csp_rows.specs.Framed.{hidden_step}
use Rattle.csp_rows.proofs.Frames.{HiddenUpTo, hidden_next}
use Rattle.csp_rows.proofs.framed.hide.Goals as goal

pub loop-place-preserved : goal.loop-place-preserved
loop-place-preserved g c =
    let by = hidden_step c.args.hidden.now.marks.items in
    let old = c.args.steps.now.items in
    let now = c.loop-place.steps.items in
    let k = c.loop-place.place in
    subst (λ (s : Step). HiddenUpTo by old (set now k s) c.args.body (k + 1)) (sym c.hide_one.ensures)
    (hidden_next by old now c.args.body k c.loop-place.invariant c.requires.1 _ c.index.result.now c.loop-place-test.true c.index.ensures)
