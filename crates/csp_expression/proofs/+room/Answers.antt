-- What one more expression leaves of the room.
use Rattle.std.proofs.Common.{◌+◌, refl, sym, ◌∙◌, ap}
use Rattle.theory_semantics.specs.Meaning.Limits.{expression_size}
use Rattle.csp_value.proofs.Walking.{one_less, one_too_many}
use Rattle.csp_expression.specs.Expression.{expression_of}
use Rattle.csp_expression.proofs.ExpressionForms.{of_constructor, of_sequence, of_set}
use Rattle.csp_expression.proofs.Measures.{one_size, sizes, size_left}
use Rattle.csp_expression.proofs.+room.Goals as goal

pub limits::room_left_by-returns-in_err-rest : goal.limits::room_left_by-returns-in_err-rest
limits::room_left_by-returns-in_err-rest g t c =
    rw c.from_residual.ensures
    (one_too_many sizes one_size refl (λ e es. refl) c.args.expressions.now c.args.room c.loop-expression.expression-index c.loop-expression.rest c.expression-item.result c.loop-expression-test.true c.expression-item.is c.loop-expression.invariant c.in_err-rest.ensures)

pub limits::room_left_by-loop-expression-preserved : goal.limits::room_left_by-loop-expression-preserved
limits::room_left_by-loop-expression-preserved g t c =
    one_less sizes one_size refl (λ e es. refl) c.args.expressions.now c.args.room c.loop-expression.expression-index c.loop-expression.rest c.in_ok-rest.rest c.expression-item.result c.loop-expression-test.true c.expression-item.is c.loop-expression.invariant
    c.in_ok-rest.ensures.0 c.in_ok-rest.ensures.1

pub expr::Expr::room_left-returns-in_ok-checked_sub-in-Sequence : goal.expr::Expr::room_left-returns-in_ok-checked_sub-in-Sequence
expr::Expr::room_left-returns-in_ok-checked_sub-in-Sequence g t c =
    let is = ap expression_size (ap expression_of c.in-Sequence.is ∙ of_sequence g.row.A.Denot c.in-Sequence.items) ∙ ap (λ es. 1 + sizes es) (sym c.deref-in-Sequence.ensures.value) in
    size_left c.room_left_by.result (sizes c.deref-in-Sequence.result.now) (one_size c.args.self.now) c.in_ok-checked_sub-in-Sequence.field-0 c.args.room is c.in_ok-checked_sub-in-Sequence.ensures.0 c.in_ok-checked_sub-in-Sequence.ensures.1 c.room_left_by.ensures

pub expr::Expr::room_left-returns-in_ok-checked_sub-in-Set : goal.expr::Expr::room_left-returns-in_ok-checked_sub-in-Set
expr::Expr::room_left-returns-in_ok-checked_sub-in-Set g t c =
    let is = ap expression_size (ap expression_of c.in-Set.is ∙ of_set g.row.A.Denot c.in-Set.members) ∙ ap (λ es. 1 + sizes es) (sym c.deref-in-Set.ensures.value) in
    size_left c.room_left_by-in-Set.result (sizes c.deref-in-Set.result.now) (one_size c.args.self.now) c.in_ok-checked_sub-in-Set.field-0 c.args.room is c.in_ok-checked_sub-in-Set.ensures.0 c.in_ok-checked_sub-in-Set.ensures.1 c.room_left_by-in-Set.ensures

pub expr::Expr::room_left-returns-in_ok-checked_sub-in-Constructor : goal.expr::Expr::room_left-returns-in_ok-checked_sub-in-Constructor
expr::Expr::room_left-returns-in_ok-checked_sub-in-Constructor g t c =
    let is = ap expression_size (ap expression_of c.in-Constructor.is ∙ of_constructor g.row.A.Denot _ c.in-Constructor.fields) ∙ ap (λ es. 1 + sizes es) (sym c.deref-in-Constructor.ensures.value) in
    size_left c.room_left_by-in-Constructor.result (sizes c.deref-in-Constructor.result.now) (one_size c.args.self.now) c.in_ok-checked_sub-in-Constructor.field-0 c.args.room is c.in_ok-checked_sub-in-Constructor.ensures.0 c.in_ok-checked_sub-in-Constructor.ensures.1 c.room_left_by-in-Constructor.ensures
