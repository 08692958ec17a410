use Rattle.std.proofs.Common.{List, arith, ap, get_or, ◌∙◌}
use Rattle.std.proofs.lemmas.List.{take_all}
use Rattle.csp_rows.specs.declared.changes.Change.{Change}
use Rattle.csp_rows.specs.ByOrder.{row_after}
use Rattle.csp_rows.proofs.Rows.{part_more}
use Rattle.csp_rows.proofs.targets.part_after.Goals as goal

pub loop-change-preserved : goal.loop-change-preserved
loop-change-preserved c =
    part_more c.args.changes.now c.args.row.now c.loop-change.change-index c.args.hole c.loop-change.part c.replaced-part.result _ c.loop-change-test.true c.requires c.loop-change.invariant c.replaced-part.ensures

pub returns : goal.returns
returns c = λ d.
    let past = c.loop-change-test.false in
    c.loop-change.invariant d ∙ ap (λ (cs : List Change). get_or (row_after cs c.args.row.now) c.args.hole d) (take_all c.loop-change.change-index c.args.changes.now (omega (arith, past)))
