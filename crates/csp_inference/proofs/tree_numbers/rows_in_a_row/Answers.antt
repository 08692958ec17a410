use Rattle.csp_inference.proofs.Rowing.{no_rows_yet, row_is_made, rows_add_all, rows_made}
use Rattle.csp_inference.proofs.tree_numbers.rows_in_a_row.Goals as goal

pub loop-count-init : goal.loop-count-init
loop-count-init g c = no_rows_yet c.args.equations.now _ c.args.counts.now c.new-rows.ensures.items

pub loop-count-preserved : goal.loop-count-preserved
loop-count-preserved g c =
    row_is_made c.args.equations.now c.loop-count.equations c.numbers_in_a_row.new.equations c.loop-count.rows.items c.push.new.self.items c.in_ok-row.row c.args.counts.now c.loop-count.count-index _ c.loop-count-test.true
    c.in_ok-row.ensures.numbers c.in_ok-row.ensures.behind c.in_ok-push.ensures.items c.loop-count.invariant

pub returns-clause-rows : goal.returns-clause-rows
returns-clause-rows g c = rows_made c.args.equations.now c.loop-count.equations c.loop-count.rows.items c.args.counts.now c.loop-count.count-index c.loop-count-test.false c.loop-count.invariant

pub returns-clause-behind : goal.returns-clause-behind
returns-clause-behind g c = rows_add_all c.args.equations.now c.loop-count.equations c.loop-count.rows.items c.args.counts.now c.loop-count.count-index c.loop-count-test.false c.loop-count.invariant
