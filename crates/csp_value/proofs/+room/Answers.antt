-- What one more value leaves of the room, and what a constructor and a sequence do.
use Rattle.std.proofs.Common.{◌+◌, refl, sym, ◌∙◌, ap}
use Rattle.theory_semantics.specs.Meaning.Limits.{value_size}
use Rattle.csp_value.specs.Value.{value_of}
use Rattle.csp_value.proofs.Forms.{value_of_con, value_of_seq}
use Rattle.csp_value.proofs.Measures.{one_size, sizes}
use Rattle.csp_value.proofs.Walking.{one_above, one_less, one_too_many}
use Rattle.csp_value.proofs.+room.Goals as goal

pub limits::room_left_by-returns-in_err-rest : goal.limits::room_left_by-returns-in_err-rest
limits::room_left_by-returns-in_err-rest g t c =
    rw c.from_residual.ensures
    (one_too_many sizes one_size refl (λ v vs. refl) c.args.values.now c.args.room c.loop-value.value-index c.loop-value.rest c.value-item.result c.loop-value-test.true c.value-item.is c.loop-value.invariant c.in_err-rest.ensures)

pub limits::room_left_by-loop-value-preserved : goal.limits::room_left_by-loop-value-preserved
limits::room_left_by-loop-value-preserved g t c =
    one_less sizes one_size refl (λ v vs. refl) c.args.values.now c.args.room c.loop-value.value-index c.loop-value.rest c.in_ok-rest.rest c.value-item.result c.loop-value-test.true c.value-item.is c.loop-value.invariant
    c.in_ok-rest.ensures.0 c.in_ok-rest.ensures.1

pub value::Value::room_left-returns-in-Con : goal.value::Value::room_left-returns-in-Con
value::Value::room_left-returns-in-Con g t c =
    let size = ap value_size (ap value_of c.in-Con.is ∙ value_of_con g.row.A.Denot _ c.in-Con.fields) ∙ ap (λ vs. 1 + sizes vs) (sym c.deref.ensures.value) in
    one_above c.room_left_by.result c.args.room c.in_ok-rest.rest (sizes c.deref.result.now) (one_size c.args.self.now) c.in_ok-rest.ensures.0 c.in_ok-rest.ensures.1 size c.room_left_by.ensures

pub value::Value::room_left-returns-in-Seq : goal.value::Value::room_left-returns-in-Seq
value::Value::room_left-returns-in-Seq g t c =
    let size = ap value_size (ap value_of c.in-Seq.is ∙ value_of_seq g.row.A.Denot c.in-Seq.items) ∙ ap (λ vs. 1 + sizes vs) (sym c.deref-in-Seq.ensures.value) in
    one_above c.room_left_by-in-Seq.result c.args.room c.in_ok-rest.rest (sizes c.deref-in-Seq.result.now) (one_size c.args.self.now) c.in_ok-rest.ensures.0 c.in_ok-rest.ensures.1 size c.room_left_by-in-Seq.ensures
