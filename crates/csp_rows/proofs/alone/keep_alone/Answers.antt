use Rattle.std.proofs.Common.{◌∙◌, sym}
use Rattle.csp_rows.proofs.KeptAlone.{kept_none, kept_one}
use Rattle.csp_rows.proofs.alone.keep_alone.Goals.{in-Some, in_default}
use Rattle.csp_rows.proofs.alone.keep_alone.Goals as goal

pub loop-place-preserved : goal.loop-place-preserved
loop-place-preserved g c =
    let free = c.args.free.now.marks.items in
    let old = c.args.steps.now.items in
    let now = c.loop-place.steps.items in
    let k = c.loop-place.place in
    elim c.match-alone.branch [
      | in-Some w ↦
          rw (w.steps-is, w.behind-is)
          (kept_one free c.args.ended old now c.args.side c.args.to k c.loop-place.behind _ c.index.result.now c.loop-place.invariant c.loop-place-test.true c.requires.side.1 c.index.ensures w.in-Some.step (sym c.alone.ensures ∙ w.in-Some.is))
      | in_default w ↦
          rw (w.steps-is, w.behind-is)
          (kept_none free c.args.ended old now c.args.side c.args.to k c.loop-place.behind _ c.index.result.now c.loop-place.invariant c.loop-place-test.true c.requires.side.1 c.index.ensures c.alone.result c.alone.ensures w.in_default.not-Some)
    ]
