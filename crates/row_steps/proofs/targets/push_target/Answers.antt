use Rattle.std.proofs.Common.{◌∙◌, ◌+◌, ℕ, drop, sym, subst, slice_index_or, slice_set}
use Rattle.row_steps.proofs.ChangedRows.{IsPushed, pushed_on}
use Rattle.row_steps.proofs.targets.push_target.Goals as goal

pub loop-change-preserved : goal.loop-change-preserved
loop-change-preserved g c =
    let old = c.args.parts.now.items in
    let all = c.args.changes.now in
    let i = c.loop-change.change-index in
    let change = slice_index_or all i (record { hole = 0; part = record { 0 = 0 } }) in
    subst (λ (n : ℕ). IsPushed old (slice_set c.loop-change.parts.items (n + change.hole) change.part) c.args.row.now all (drop (i + 1) all)) (sym (c.len-from.ensures ∙ c.args.parts.now.ok.0))
    (pushed_on old c.loop-change.parts.items c.args.row.now all i (record { hole = 0; part = record { 0 = 0 } }) c.loop-change-test.true c.loop-change.invariant)
