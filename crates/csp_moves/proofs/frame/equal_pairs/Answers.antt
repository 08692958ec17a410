-- Their order ties where they are the same.
use Rattle.std.proofs.Common.{◌∙◌, ap, ap₂}
use Rattle.std.specs.Cmp.Lexicographic.{slice_cmp}
use Rattle.std.specs.Ordering.{is_eq}
use Rattle.csp_events.specs.Events.{renaming_pairs_of}
use Rattle.csp_events.proofs.EventOrder.{pair_order, pairs_ordered}
use Rattle.csp_moves.proofs.Pairs.{pairs_decided}
use Rattle.csp_moves.proofs.frame.equal_pairs.Goals as goal

pub returns : goal.returns
returns g c =
    let left = c.args.pairs.now.items in
    let right = c.args.others.now.items in
    let order = pair_order g.row.A g.A.Allocator g.A.Allocator-dict g.A.Allocator-dict in
    pairs_decided (renaming_pairs_of left) (renaming_pairs_of right) c.is_eq.result
    (c.is_eq.ensures ∙ ap is_eq (c.cmp.ensures ∙ ap₂ (λ xs ys. slice_cmp order xs ys) c.as_slice-left.ensures.value c.as_slice-right.ensures.value ∙ pairs_ordered g.row.A g.A.Allocator g.A.Allocator-dict g.A.Allocator-dict left right))
