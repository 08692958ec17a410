use Rattle.std.proofs.Common.{inl, inr, lit<, Result, Err, sym, ◌∙◌, ap, subst}
use Rattle.std.proofs.lemmas.Result.{err_from_is_err_and}
use Rattle.csp_rows.specs.declared.composed.SideBits.{SideBits}
use Rattle.csp_expression.specs.declared.no_value.NoValue.{NoValue}
use Rattle.theory_shapes.specs.Shape.{Alphabetised}
use Rattle.csp_events.specs.Events.{event_set_of}
use Rattle.csp_term.specs.Script.{script_of_parts}
use Rattle.csp_events.specs.Testing.{test_of}
use Rattle.csp_numbers.specs.Operators.{AnswersSides}
use Rattle.csp_numbers.proofs.OperatorsByNumbers.{alphabetised_sides, no_left_sides, no_right_sides}
use Rattle.csp_numbers.proofs.sides.alphabetised.Goals as goal

pub returns-in_err-on_left : goal.returns-in_err-on_left
returns-in_err-on_left g c =
    let s = script_of_parts c.args.script.now in
    let a = event_set_of c.args.left.now in
    let b = event_set_of c.args.right.now in
    let p = err_from_is_err_and c.from_residual.result c.from_residual.ensures.1 in
    let P : Result (SideBits g.row.A.Denot) NoValue → Type 0 = λ r. AnswersSides c.args.alphabet.now s (Alphabetised a b) r in
    subst P (sym (p.1 ∙ ap Err p.2)) (no_left_sides g.row.A.Denot c.args.alphabet.now s a b c.in_err-on_left.field-0.0 c.in_err-on_left.ensures)

pub returns-in_err-on_right : goal.returns-in_err-on_right
returns-in_err-on_right g c =
    let s = script_of_parts c.args.script.now in
    let a = event_set_of c.args.left.now in
    let b = event_set_of c.args.right.now in
    let p = err_from_is_err_and c.from_residual-in_err-on_right.result c.from_residual-in_err-on_right.ensures.1 in
    let P : Result (SideBits g.row.A.Denot) NoValue → Type 0 = λ r. AnswersSides c.args.alphabet.now s (Alphabetised a b) r in
    subst P (sym (p.1 ∙ ap Err p.2)) (no_right_sides g.row.A.Denot c.args.alphabet.now s a b (test_of c.in_ok-on_left.on_left) c.in_err-on_right.field-0.0 c.in_ok-on_left.ensures.0 c.in_err-on_right.ensures)

pub returns : goal.returns
returns g c =
    alphabetised_sides c.args.alphabet.now (script_of_parts c.args.script.now) c.in_ok-bits.bits (event_set_of c.args.left.now) (event_set_of c.args.right.now) (test_of c.in_ok-on_left.on_left) (test_of c.in_ok-on_right.on_right)
    c.in_ok-on_left.ensures.0 c.in_ok-on_right.ensures.0 c.in_ok-bits.ensures

pub drop-on_left-requires-room-T-Destruct : goal.drop-on_left-requires-room-T-Destruct
drop-on_left-requires-room-T-Destruct g c κs within = elim g.met.A.AllocHandle.small [ inl e ↦ rw (e.0, e.1) (lit< tt) | inr e ↦ rw (e.0, e.1) (lit< tt) ]

pub drop-on_left-requires-in_err-on_right-2-room-T-Destruct : goal.drop-on_left-requires-in_err-on_right-2-room-T-Destruct
drop-on_left-requires-in_err-on_right-2-room-T-Destruct g c κs within = elim g.met.A.AllocHandle.small [ inl e ↦ rw (e.0, e.1) (lit< tt) | inr e ↦ rw (e.0, e.1) (lit< tt) ]

pub drop-on_right-requires-room-T-Destruct : goal.drop-on_right-requires-room-T-Destruct
drop-on_right-requires-room-T-Destruct g c κs within = elim g.met.A.AllocHandle.small [ inl e ↦ rw (e.0, e.1) (lit< tt) | inr e ↦ rw (e.0, e.1) (lit< tt) ]

pub drop-on_right-requires-in_err-bits-2-room-T-Destruct : goal.drop-on_right-requires-in_err-bits-2-room-T-Destruct
drop-on_right-requires-in_err-bits-2-room-T-Destruct g c κs within = elim g.met.A.AllocHandle.small [ inl e ↦ rw (e.0, e.1) (lit< tt) | inr e ↦ rw (e.0, e.1) (lit< tt) ]

pub drop-on_left-requires-in_err-bits-room-T-Destruct : goal.drop-on_left-requires-in_err-bits-room-T-Destruct
drop-on_left-requires-in_err-bits-room-T-Destruct g c κs within = elim g.met.A.AllocHandle.small [ inl e ↦ rw (e.0, e.1) (lit< tt) | inr e ↦ rw (e.0, e.1) (lit< tt) ]

pub drop-on_left-requires-in_err-bits-2-room-T-Destruct : goal.drop-on_left-requires-in_err-bits-2-room-T-Destruct
drop-on_left-requires-in_err-bits-2-room-T-Destruct g c κs within = elim g.met.A.AllocHandle.small [ inl e ↦ rw (e.0, e.1) (lit< tt) | inr e ↦ rw (e.0, e.1) (lit< tt) ]

pub drop-on_right-requires-in_ok-bits-room-T-Destruct : goal.drop-on_right-requires-in_ok-bits-room-T-Destruct
drop-on_right-requires-in_ok-bits-room-T-Destruct g c κs within = elim g.met.A.AllocHandle.small [ inl e ↦ rw (e.0, e.1) (lit< tt) | inr e ↦ rw (e.0, e.1) (lit< tt) ]

pub drop-on_right-requires-in_ok-bits-2-room-T-Destruct : goal.drop-on_right-requires-in_ok-bits-2-room-T-Destruct
drop-on_right-requires-in_ok-bits-2-room-T-Destruct g c κs within = elim g.met.A.AllocHandle.small [ inl e ↦ rw (e.0, e.1) (lit< tt) | inr e ↦ rw (e.0, e.1) (lit< tt) ]

pub drop-on_left-requires-in_ok-bits-room-T-Destruct : goal.drop-on_left-requires-in_ok-bits-room-T-Destruct
drop-on_left-requires-in_ok-bits-room-T-Destruct g c κs within = elim g.met.A.AllocHandle.small [ inl e ↦ rw (e.0, e.1) (lit< tt) | inr e ↦ rw (e.0, e.1) (lit< tt) ]

pub drop-on_left-requires-in_ok-bits-2-room-T-Destruct : goal.drop-on_left-requires-in_ok-bits-2-room-T-Destruct
drop-on_left-requires-in_ok-bits-2-room-T-Destruct g c κs within = elim g.met.A.AllocHandle.small [ inl e ↦ rw (e.0, e.1) (lit< tt) | inr e ↦ rw (e.0, e.1) (lit< tt) ]
