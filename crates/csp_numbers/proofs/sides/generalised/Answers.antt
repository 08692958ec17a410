use Rattle.std.proofs.Common.{inl, inr, lit<, Result, Err, sym, ◌∙◌, ap, subst}
use Rattle.std.proofs.lemmas.Result.{err_from_is_err_and}
use Rattle.csp_rows.specs.declared.composed.SideBits.{SideBits}
use Rattle.csp_expression.specs.declared.no_value.NoValue.{NoValue}
use Rattle.theory_shapes.specs.Shape.{Generalised}
use Rattle.csp_events.specs.Events.{event_set_of}
use Rattle.csp_term.specs.Script.{script_of_parts}
use Rattle.csp_events.specs.Testing.{test_of}
use Rattle.csp_numbers.specs.Operators.{AnswersSides}
use Rattle.csp_numbers.proofs.OperatorsByNumbers.{generalised_sides, no_generalised_sides}
use Rattle.csp_numbers.proofs.sides.generalised.Goals as goal

pub returns-in_err-test : goal.returns-in_err-test
returns-in_err-test g c =
    let s = script_of_parts c.args.script.now in
    let a = event_set_of c.args.shared.now in
    let p = err_from_is_err_and c.from_residual.result c.from_residual.ensures.1 in
    let P : Result (SideBits g.row.A.Denot) NoValue → Type 0 = λ r. AnswersSides c.args.alphabet.now s (Generalised a) r in
    subst P (sym (p.1 ∙ ap Err p.2)) (no_generalised_sides g.row.A.Denot c.args.alphabet.now s a c.in_err-test.field-0.0 c.in_err-test.ensures)

pub returns : goal.returns
returns g c =
    generalised_sides c.args.alphabet.now (script_of_parts c.args.script.now) c.in_ok-bits.bits (event_set_of c.args.shared.now) (test_of c.in_ok-test.test) c.in_ok-test.ensures.0 c.in_ok-bits.ensures

pub drop-test-requires-room-T-Destruct : goal.drop-test-requires-room-T-Destruct
drop-test-requires-room-T-Destruct g c κs within = elim g.met.A.AllocHandle.small [ inl e ↦ rw (e.0, e.1) (lit< tt) | inr e ↦ rw (e.0, e.1) (lit< tt) ]

pub drop-test-requires-in_err-bits-2-room-T-Destruct : goal.drop-test-requires-in_err-bits-2-room-T-Destruct
drop-test-requires-in_err-bits-2-room-T-Destruct g c κs within = elim g.met.A.AllocHandle.small [ inl e ↦ rw (e.0, e.1) (lit< tt) | inr e ↦ rw (e.0, e.1) (lit< tt) ]

pub drop-test-requires-in_ok-bits-room-T-Destruct : goal.drop-test-requires-in_ok-bits-room-T-Destruct
drop-test-requires-in_ok-bits-room-T-Destruct g c κs within = elim g.met.A.AllocHandle.small [ inl e ↦ rw (e.0, e.1) (lit< tt) | inr e ↦ rw (e.0, e.1) (lit< tt) ]

pub drop-test-requires-in_ok-bits-2-room-T-Destruct : goal.drop-test-requires-in_ok-bits-2-room-T-Destruct
drop-test-requires-in_ok-bits-2-room-T-Destruct g c κs within = elim g.met.A.AllocHandle.small [ inl e ↦ rw (e.0, e.1) (lit< tt) | inr e ↦ rw (e.0, e.1) (lit< tt) ]
