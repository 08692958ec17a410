use Rattle.std.proofs.Common.{◌+◌, ◌-◌, ◌<◌, ◌≤◌, ◌≡◌, suc, arith}
use Rattle.csp_inference.proofs.Rowing.{row_adds_all, row_at_first, row_more, row_numbers_all}
use Rattle.csp_inference.proofs.tree_numbers.numbers_in_a_row.Goals as goal

pub loop-init : goal.loop-init
loop-init g c = row_at_first c.args.equations.now _ _ c.args.count c.new-numbers.ensures.items (omega arith)

pub loop-preserved : goal.loop-preserved
loop-preserved g c =
    let within : c.loop.counter < c.args.count = c.loop-test.true in
    let one : c.args.count - c.loop.counter ≡ suc (c.args.count - (c.loop.counter + 1)) = omega arith in
    row_more c.args.equations.now c.loop.equations c.fresh.new.self c.loop.numbers.items c.push.new.self.items (c.args.count - c.loop.counter) (c.args.count - (c.loop.counter + 1)) c.args.count c.in_ok-number.number c.in_ok-number.ensures.number
    c.in_ok-number.ensures.behind one c.in_ok-push.ensures.items c.loop.invariant

pub returns-clause-numbers : goal.returns-clause-numbers
returns-clause-numbers g c =
    let over : c.args.count ≤ c.loop.counter = c.loop-test.false in
    let none : c.args.count - c.loop.counter ≡ 0 = omega arith in
    row_numbers_all c.args.equations.now c.loop.equations c.loop.numbers.items (c.args.count - c.loop.counter) c.args.count none c.loop.invariant

pub returns-clause-behind : goal.returns-clause-behind
returns-clause-behind g c =
    let over : c.args.count ≤ c.loop.counter = c.loop-test.false in
    let none : c.args.count - c.loop.counter ≡ 0 = omega arith in
    row_adds_all c.args.equations.now c.loop.equations c.loop.numbers.items (c.args.count - c.loop.counter) c.args.count none c.loop.invariant
