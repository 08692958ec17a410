-- What is found in the first one in which anything is.
use Rattle.std.proofs.Common.{◌+◌, drop, sym, ◌∙◌, arith}
use Rattle.theory_faults.proofs.Events.{first_mapped}
use Rattle.theory_faults.specs.Culprit.{first_found}
use Rattle.theory_faults.specs.Events.{beginning_culprit}
use Rattle.csp_events.specs.Events.{event_expression_of}
use Rattle.csp_events.specs.declared.event_expression.EventExpression.{EventExpression}
use Rattle.csp_term.specs.Script.{script_of_parts}
use Rattle.csp_faults.proofs.Found.{found_none, goes_behind, looked, stays}
use Rattle.csp_faults.proofs.events.productions_culprit.Goals as goal

pub returns-then-is_some : goal.returns-then-is_some
returns-then-is_some g c =
    let s = script_of_parts c.args.script.now in
    let look = λ (x : EventExpression g.row.A.Denot). beginning_culprit s (event_expression_of x) in
    let xs = c.args.beginnings.now in
    let i = c.loop-beginning.beginning-index in
    let x = c.beginning-item.result in
    stays c.in_ok-found.found c.is_some.result c.is_some.ensures c.if-is_some.true (look x) (first_found look (drop (i + 1) xs)) (first_found look xs) c.in_ok-found.ensures
    (looked look xs i x c.loop-beginning-test.true c.beginning-item.is c.loop-beginning.invariant)
    ∙ sym (first_mapped (beginning_culprit s) event_expression_of xs)

pub loop-beginning-preserved : goal.loop-beginning-preserved
loop-beginning-preserved g c =
    let s = script_of_parts c.args.script.now in
    let look = λ (x : EventExpression g.row.A.Denot). beginning_culprit s (event_expression_of x) in
    let xs = c.args.beginnings.now in
    let i = c.loop-beginning.beginning-index in
    let x = c.beginning-item.result in
    goes_behind c.in_ok-found.found c.is_some.result c.is_some.ensures c.if-is_some.false (look x) (first_found look (drop (i + 1) xs)) (first_found look xs) c.in_ok-found.ensures
    (looked look xs i x c.loop-beginning-test.true c.beginning-item.is c.loop-beginning.invariant)

pub returns : goal.returns
returns g c =
    let s = script_of_parts c.args.script.now in
    let xs = c.args.beginnings.now in
    found_none (λ (x : EventExpression g.row.A.Denot). beginning_culprit s (event_expression_of x)) xs c.loop-beginning.beginning-index (omega arith) c.loop-beginning.invariant ∙ sym (first_mapped (beginning_culprit s) event_expression_of xs)
