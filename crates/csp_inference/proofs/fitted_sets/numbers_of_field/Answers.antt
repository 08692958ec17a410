use Rattle.csp_inference.proofs.Columns.{column_more, column_none}
use Rattle.csp_inference.proofs.fitted_sets.numbers_of_field.Goals as goal

pub returns-in_default : goal.returns-in_default
returns-in_default g c =
    column_none c.loop-row.numbers.items c.args.field c.args.rows.now c.loop-row.row-index c.row-item.result c.deref.result.now c.loop-row-test.true c.row-item.is c.deref.ensures.value c.loop-row.invariant c.in_default.ensures

pub loop-row-preserved : goal.loop-row-preserved
loop-row-preserved g c =
    column_more c.loop-row.numbers.items c.args.field c.args.rows.now c.loop-row.row-index c.row-item.result c.deref.result.now c.loop-row-test.true c.row-item.is c.deref.ensures.value c.loop-row.invariant c.push.new.self.items c.in-Some.number c.in-Some.ensures c.in_ok-push.ensures.items
