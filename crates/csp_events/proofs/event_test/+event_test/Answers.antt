-- Two sets under an operator have the tests of both, or the first cause for which one has none.
use Rattle.std.proofs.Common.{Result, Ok, Err, sym, ◌∙◌, ap, subst}
use Rattle.std.proofs.lemmas.Result.{err_from_is_err_and}
use Rattle.theory_syntax.specs.Process as process
use Rattle.theory_semantics.specs.Meaning.Events.{event_test}
use Rattle.csp_expression.specs.declared.no_value.NoValue.{NoValue}
use Rattle.csp_events.specs.Channels.{declaring}
use Rattle.csp_events.specs.declared.event_set.EventSet.{EventSet}
use Rattle.csp_events.specs.declared.event_test.EventTest.{EventTest}
use Rattle.csp_events.specs.declared.event_test.EventTest.TheVariants as views
use Rattle.csp_events.specs.Events.{event_set_of}
use Rattle.csp_events.specs.Testing.{IsBoxedTestOf, IsTestOf}
use Rattle.csp_events.proofs.EventForms.{of_combined}
use Rattle.csp_events.proofs.Evaluating.{both_tested, first_stuck, second_stuck}
use Rattle.csp_events.proofs.event_test.+event_test.Goals as goal

pub EventTest::of-returns-in_err-left-in-Combine : goal.EventTest::of-returns-in_err-left-in-Combine
EventTest::of-returns-in_err-left-in-Combine g t c =
    let script = declaring c.args.types.now c.args.channels.now in
    let op = c.in-Combine.operator in
    let a = c.in-Combine.left in
    let b = c.in-Combine.right in
    let why = c.in_err-left-in-Combine.field-0.0 in
    let L : EventSet g.row.A.Denot → Type 0 = λ e. IsBoxedTestOf {A = g.row.A.Denot} (Err why) (event_test script (event_set_of e)) in
    let P : process.EventSet → Type 0 = λ e. IsTestOf {A = g.row.A.Denot} (Err why) (event_test script e) in
    let R : Result (EventTest g.row.A.Denot) NoValue → Type 0 = λ r. IsTestOf r (event_test script (event_set_of c.args.set.now)) in
    let p = err_from_is_err_and c.from_residual.result c.from_residual.ensures.1 in
    subst R (sym (p.1 ∙ ap Err p.2))
    (subst P (sym (ap event_set_of c.in-Combine.is ∙ of_combined g.row.A.Denot op a b))
    (first_stuck script op (event_set_of a.value) (event_set_of b.value) g.row.A.Denot why (subst L c.deref-in-Combine.ensures c.in_err-left-in-Combine.ensures)))

pub EventTest::of-returns-in_err-right-in-Combine : goal.EventTest::of-returns-in_err-right-in-Combine
EventTest::of-returns-in_err-right-in-Combine g t c =
    let script = declaring c.args.types.now c.args.channels.now in
    let op = c.in-Combine.operator in
    let l = c.in_ok-left-in-Combine.left in
    let a = c.in-Combine.left in
    let b = c.in-Combine.right in
    let why = c.in_err-right-in-Combine.field-0.0 in
    let L : EventSet g.row.A.Denot → Type 0 = λ e. IsBoxedTestOf (Ok l) (event_test script (event_set_of e)) in
    let R : EventSet g.row.A.Denot → Type 0 = λ e. IsBoxedTestOf {A = g.row.A.Denot} (Err why) (event_test script (event_set_of e)) in
    let P : process.EventSet → Type 0 = λ e. IsTestOf {A = g.row.A.Denot} (Err why) (event_test script e) in
    let Q : Result (EventTest g.row.A.Denot) NoValue → Type 0 = λ r. IsTestOf r (event_test script (event_set_of c.args.set.now)) in
    let p = err_from_is_err_and c.from_residual-in_err-right-in-Combine.result c.from_residual-in_err-right-in-Combine.ensures.1 in
    subst Q (sym (p.1 ∙ ap Err p.2))
    (subst P (sym (ap event_set_of c.in-Combine.is ∙ of_combined g.row.A.Denot op a b))
    (second_stuck script op (event_set_of a.value) (event_set_of b.value) g.row.A.Denot l (subst L c.deref-in-Combine.ensures c.in_ok-left-in-Combine.ensures) why (subst R c.deref-in-Combine-2.ensures c.in_err-right-in-Combine.ensures)))

pub EventTest::of-returns-in_ok-right-in-Combine : goal.EventTest::of-returns-in_ok-right-in-Combine
EventTest::of-returns-in_ok-right-in-Combine g t c =
    let script = declaring c.args.types.now c.args.channels.now in
    let op = c.in-Combine.operator in
    let l = c.in_ok-left-in-Combine.left in
    let r = c.in_ok-right-in-Combine.right in
    let a = c.in-Combine.left in
    let b = c.in-Combine.right in
    let L : EventSet g.row.A.Denot → Type 0 = λ e. IsBoxedTestOf (Ok l) (event_test script (event_set_of e)) in
    let R : EventSet g.row.A.Denot → Type 0 = λ e. IsBoxedTestOf (Ok r) (event_test script (event_set_of e)) in
    let P : process.EventSet → Type 0 = λ e. IsTestOf (Ok (views.Combine op l r)) (event_test script e) in
    subst P (sym (ap event_set_of c.in-Combine.is ∙ of_combined g.row.A.Denot op a b))
    (both_tested script op (event_set_of a.value) (event_set_of b.value) g.row.A.Denot l (subst L c.deref-in-Combine.ensures c.in_ok-left-in-Combine.ensures) r (subst R c.deref-in-Combine-2.ensures c.in_ok-right-in-Combine.ensures))
