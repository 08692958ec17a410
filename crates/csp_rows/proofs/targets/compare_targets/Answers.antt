use Rattle.std.proofs.Common.{◌≡◌, arith, sym, ◌∙◌, true, false}
use Rattle.std.proofs.lemmas.Cmp.{tied_itself}
use Rattle.std.specs.Ordering.{is_ne}
use Rattle.csp_rows.specs.ByOrder.{row_after}
use Rattle.csp_rows.proofs.Loops.{not_tied, tie_more, tied}
use Rattle.csp_rows.proofs.Rows.{decided, row_length, unchanged_tie, undecided}
use Rattle.csp_rows.proofs.targets.compare_targets.Goals as goal

pub loop-hole-init : goal.loop-hole-init
loop-hole-init g c =
    let first = c.next_changed.ensures in
    let both = c.next_changed-hole.ensures in
    let one = first.before in
    let two = both.before in
    record {
      within = omega (arith, one, two);
      tie = λ i lt.
          unchanged_tie (g.O.PartOrder.order c.args.parts.now) (tied_itself (g.met.O.PartOrder.total c.args.parts.now)) c.args.row.now c.args.left.now c.args.right.now i (both.unchanged i (omega arith) lt)
          (first.unchanged i (omega arith) (omega (arith, lt, two)));
    }

pub loop-hole-preserved : goal.loop-hole-preserved
loop-hole-preserved g c =
    let first = c.next_changed-in-loop-hole.ensures in
    let both = c.next_changed-hole-in-loop-hole.ensures in
    let one = first.before in
    let two = both.before in
    let ne : is_ne c.compare_in_hole-order.result ≡ false = sym c.is_ne.ensures ∙ c.if-is_ne.false in
    record {
      within = omega (arith, one, two);
      tie = tie_more (g.O.PartOrder.order c.args.parts.now) (tied_itself (g.met.O.PartOrder.total c.args.parts.now)) c.args.row.now c.args.left.now c.args.right.now c.loop-hole.hole c.next_changed-hole-in-loop-hole.result c.loop-hole.invariant.tie
          (λ d. sym (c.compare_in_hole-order.ensures d) ∙ tied c.compare_in_hole-order.result ne) both.unchanged (λ i on lt. first.unchanged i on (omega (arith, lt, two)));
    }

pub returns-then-is_ne : goal.returns-then-is_ne
returns-then-is_ne g c =
    let row = c.args.row.now in
    let left = c.args.left.now in
    let right = c.args.right.now in
    let lt = c.loop-hole-test.true in
    let ne : is_ne c.compare_in_hole-order.result ≡ true = sym c.is_ne.ensures ∙ c.if-is_ne.true in
    decided (g.O.PartOrder.order c.args.parts.now) c.loop-hole.hole (row_after left row) (row_after right row) c.compare_in_hole-order.result (omega (arith, lt, row_length left row)) (row_length left row ∙ sym (row_length right row)) c.loop-hole.invariant.tie
    c.compare_in_hole-order.ensures (not_tied c.compare_in_hole-order.result ne)

pub loop-hole-smaller : goal.loop-hole-smaller
loop-hole-smaller g c =
    let lt = c.loop-hole-test.true in
    let one = c.next_changed-in-loop-hole.ensures.behind (omega (arith, lt)) in
    let two = c.next_changed-hole-in-loop-hole.ensures.behind one in
    omega (arith, lt, two)

pub returns : goal.returns
returns g c =
    let row = c.args.row.now in
    let left = c.args.left.now in
    let right = c.args.right.now in
    let past = c.loop-hole-test.false in
    undecided (g.O.PartOrder.order c.args.parts.now) (row_after left row) (row_after right row) (row_length left row ∙ sym (row_length right row)) (λ i lt. c.loop-hole.invariant.tie i (omega (arith, lt, past, row_length left row)))
