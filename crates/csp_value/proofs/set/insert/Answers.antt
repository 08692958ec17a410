-- The value's place is before the first member that is above it.
use Rattle.std.proofs.Common.{◌<◌, length, subst, sym, ◌∙◌, ap, ap₂}
use Rattle.theory_syntax.specs.Value.{insert_value}
use Rattle.csp_value.specs.Value.{value_of, values_of}
use Rattle.csp_value.proofs.Inserting.{put_before, put_already, put_later}
use Rattle.csp_value.proofs.ValueOrder.{ordered}
use Rattle.csp_value.proofs.set.insert.Goals as goal

pub returns-in-Less : goal.returns-in-Less
returns-in-Less g c =
    let kept = c.loop-place.invariant in
    let within = subst (λ n. c.loop-place.place < n) (c.len-place-end.ensures ∙ c.args.members.now.ok.0 ∙ ap length (sym kept.0)) c.loop-place-test.true in
    let order = sym (ordered g.row.A g.A.Allocator g.A.Allocator-dict g.A.Destruct-dict _ c.index.result.now) ∙ sym c.cmp.ensures ∙ c.in-Less.is in
    ap values_of c.in_ok-insert-in-Less.ensures.items ∙ put_before value_of _ c.loop-place.members.items c.loop-place.place c.index.result.now kept.2 within c.index.ensures order
    ∙ ap₂ (λ x xs. insert_value (value_of x) (values_of xs)) kept.1 kept.0

pub returns-in-Equal : goal.returns-in-Equal
returns-in-Equal g c =
    let kept = c.loop-place.invariant in
    let within = subst (λ n. c.loop-place.place < n) (c.len-place-end.ensures ∙ c.args.members.now.ok.0 ∙ ap length (sym kept.0)) c.loop-place-test.true in
    let order = sym (ordered g.row.A g.A.Allocator g.A.Allocator-dict g.A.Destruct-dict _ c.index.result.now) ∙ sym c.cmp.ensures ∙ c.in-Equal.is in
    put_already value_of _ c.loop-place.members.items c.loop-place.place c.index.result.now kept.2 within c.index.ensures order
    ∙ ap₂ (λ x xs. insert_value (value_of x) (values_of xs)) kept.1 kept.0

pub loop-place-preserved : goal.loop-place-preserved
loop-place-preserved g c =
    let kept = c.loop-place.invariant in
    let within = subst (λ n. c.loop-place.place < n) (c.len-place-end.ensures ∙ c.args.members.now.ok.0 ∙ ap length (sym kept.0)) c.loop-place-test.true in
    let order = sym (ordered g.row.A g.A.Allocator g.A.Allocator-dict g.A.Destruct-dict _ c.index.result.now) ∙ sym c.cmp.ensures ∙ c.in-Greater.is in
    (kept.0, kept.1, put_later value_of _ c.loop-place.members.items c.loop-place.place c.index.result.now kept.2 within c.index.ensures order)
