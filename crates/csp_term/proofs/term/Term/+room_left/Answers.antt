-- What the terms under the head leave of the room.
use Rattle.std.proofs.Common.{◌+◌, sym, ◌∙◌, ap}
use Rattle.theory_semantics.specs.Meaning.Limits.{size}
use Rattle.csp_term.specs.Own.{own_size}
use Rattle.csp_term.specs.Term.{process_of, process_of_form}
use Rattle.csp_term.proofs.Forms.{of_form}
use Rattle.csp_term.proofs.TermMeasures.{head_left, first_past, second_left, over_one_size, over_two_size}
use Rattle.csp_term.proofs.term.Term.+room_left.Goals as goal

pub returns-in-Prefix : goal.returns-in-Prefix
returns-in-Prefix g t c =
    let is = ap size (of_form g.row.A.Denot c.args.self.now ∙ ap process_of_form (sym c.deref-2.ensures)) ∙ over_one_size c.deref-2.result.now c.in-Prefix.body c.in-Prefix.is
    ∙ ap (λ f. own_size (process_of_form f) + size (process_of c.in-Prefix.body)) (c.deref-2.ensures ∙ sym c.deref.ensures)
    in
    head_left c.room_left-in-Prefix.result (own_size (process_of_form c.deref.result.now)) (size (process_of c.in-Prefix.body)) (size (process_of c.args.self.now)) c.in_ok-rest.rest c.args.room is c.in_ok-rest.ensures.0 c.in_ok-rest.ensures.1 c.room_left-in-Prefix.ensures

pub returns-in_err-room_left-in-If : goal.returns-in_err-room_left-in-If
returns-in_err-room_left-in-If g t c =
    let is = ap size (of_form g.row.A.Denot c.args.self.now ∙ ap process_of_form (sym c.deref-2.ensures)) ∙ over_two_size c.deref-2.result.now c.in-If.left c.in-If.right c.in-If.is
    ∙ ap (λ f. own_size (process_of_form f) + (size (process_of c.in-If.left) + size (process_of c.in-If.right))) (c.deref-2.ensures ∙ sym c.deref.ensures)
    in
    rw c.from_residual-in_err-room_left-in-If.ensures
    (first_past (own_size (process_of_form c.deref.result.now)) (size (process_of c.in-If.left)) (size (process_of c.in-If.right)) (size (process_of c.args.self.now)) c.in_ok-rest.rest c.args.room
    is c.in_ok-rest.ensures.0 c.in_ok-rest.ensures.1 c.in_err-room_left-in-If.ensures)

pub returns-in_ok-room_left-in-If : goal.returns-in_ok-room_left-in-If
returns-in_ok-room_left-in-If g t c =
    let is = ap size (of_form g.row.A.Denot c.args.self.now ∙ ap process_of_form (sym c.deref-2.ensures)) ∙ over_two_size c.deref-2.result.now c.in-If.left c.in-If.right c.in-If.is
    ∙ ap (λ f. own_size (process_of_form f) + (size (process_of c.in-If.left) + size (process_of c.in-If.right))) (c.deref-2.ensures ∙ sym c.deref.ensures)
    in
    second_left c.room_left-in-If.result (own_size (process_of_form c.deref.result.now)) (size (process_of c.in-If.left)) (size (process_of c.in-If.right)) (size (process_of c.args.self.now)) c.in_ok-rest.rest c.in_ok-room_left-in-If.field-0 c.args.room
    is c.in_ok-rest.ensures.0 c.in_ok-rest.ensures.1 c.in_ok-room_left-in-If.ensures.0 c.in_ok-room_left-in-If.ensures.1 c.room_left-in-If.ensures
