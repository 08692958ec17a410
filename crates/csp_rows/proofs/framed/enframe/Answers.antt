use Rattle.std.proofs.Common.{take, drop, subst, sym, ◌∙◌}
use Rattle.std.specs.Prelude.{◌≡◌, ◌++◌}
use Rattle.csp_rows.specs.declared.framed.Frame.{Frame}
use Rattle.csp_rows.specs.Stacks.{IsOnTop, between}
use Rattle.csp_rows.specs.Framed.{IsFramed, renamed_steps}
use Rattle.csp_rows.proofs.Answered.{by_end}
use Rattle.csp_rows.proofs.Frames.{hidden_on_top, renamed_on_top}
use Rattle.csp_rows.proofs.framed.enframe.Goals as goal

pub returns-in-Hidden : goal.returns-in-Hidden
returns-in-Hidden g c =
    let A = g.row.A.Denot in
    let old = c.args.steps.now.items in
    let new = c.hide.new.steps.items in
    let from = c.args.from in
    let top = c.len-to.ensures ∙ c.args.steps.now.ok.0 in
    subst (λ (f : Frame A). IsOnTop (take from old) (IsFramed f (drop from old)) new) (sym c.in-Hidden.is) (hidden_on_top old new (record { from = from; to = c.len-to.result }) top c.in-Hidden.hidden c.hide.ensures)

pub returns-in-Renamed : goal.returns-in-Renamed
returns-in-Renamed g c =
    let A = g.row.A.Denot in
    let old = c.args.steps.now.items in
    let new = c.rename.new.steps.items in
    let from = c.args.from in
    let to = c.len-to.result in
    let top = c.len-to.ensures ∙ c.args.steps.now.ok.0 in
    let by = c.in-Renamed.images in
    by_end (new ≡ take from old ++ renamed_steps by.images.items (between (record { from = from; to = to }) old)) (IsOnTop (take from old) (IsFramed c.args.frame.now (drop from old)) new) c.rename.result
    (λ is. subst (λ (f : Frame A). IsOnTop (take from old) (IsFramed f (drop from old)) new) (sym c.in-Renamed.is) (renamed_on_top old new (record { from = from; to = to }) top by is)) c.rename.ensures
