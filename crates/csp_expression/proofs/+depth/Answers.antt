-- Each expression so far is within the depth.
use Rattle.std.proofs.Common.{◌+◌, refl, sym, ◌∙◌, ap, arith}
use Rattle.theory_semantics.specs.Meaning.Limits.{expression_depth}
use Rattle.csp_value.proofs.Walking.{one_more, one_beyond, none_beyond, told_beyond, told_within}
use Rattle.csp_expression.specs.Expression.{expression_of}
use Rattle.csp_expression.proofs.ExpressionForms.{of_constructor, of_sequence, of_set}
use Rattle.csp_expression.proofs.Measures.{one_depth, depths, depth_within}
use Rattle.csp_expression.proofs.+depth.Goals as goal

pub limits::are_within_depth-loop-expression-preserved : goal.limits::are_within_depth-loop-expression-preserved
limits::are_within_depth-loop-expression-preserved g t c =
    one_more depths one_depth refl (λ e es. refl) c.args.expressions.now c.args.most c.loop-expression.expression-index c.expression-item.result c.loop-expression-test.true c.expression-item.is
    (told_within c.is_within_depth.result _ c.is_within_depth.ensures c.if-not-is_within_depth.false) c.loop-expression.invariant

pub limits::are_within_depth-returns-then-not-is_within_depth : goal.limits::are_within_depth-returns-then-not-is_within_depth
limits::are_within_depth-returns-then-not-is_within_depth g t c = (
  λ no. absurd (cc no),
  λ all. absurd (one_beyond depths one_depth refl (λ e es. refl) c.args.expressions.now c.args.most c.loop-expression.expression-index c.expression-item.result c.loop-expression-test.true c.expression-item.is
      (told_beyond c.is_within_depth.result _ c.is_within_depth.ensures c.if-not-is_within_depth.true) all),
)

pub limits::are_within_depth-returns : goal.limits::are_within_depth-returns
limits::are_within_depth-returns g t c = (λ yes. none_beyond depths one_depth refl (λ e es. refl) c.args.expressions.now c.args.most c.loop-expression.expression-index (omega arith) c.loop-expression.invariant, λ all. refl)

pub expr::Expr::is_within_depth-returns-in-Sequence : goal.expr::Expr::is_within_depth-returns-in-Sequence
expr::Expr::is_within_depth-returns-in-Sequence g t c =
    let is = ap expression_depth (ap expression_of c.in-Sequence.is ∙ of_sequence g.row.A.Denot c.in-Sequence.items) ∙ ap (λ es. 1 + depths es) (sym c.deref-in-Sequence.ensures.value) in
    depth_within c.are_within_depth.result (depths c.deref-in-Sequence.result.now) (one_depth c.args.self.now) c.args.most is (let some = c.if-most-eq0.false in omega arith) c.are_within_depth.ensures

pub expr::Expr::is_within_depth-returns-in-Set : goal.expr::Expr::is_within_depth-returns-in-Set
expr::Expr::is_within_depth-returns-in-Set g t c =
    let is = ap expression_depth (ap expression_of c.in-Set.is ∙ of_set g.row.A.Denot c.in-Set.members) ∙ ap (λ es. 1 + depths es) (sym c.deref-in-Set.ensures.value) in
    depth_within c.are_within_depth-in-Set.result (depths c.deref-in-Set.result.now) (one_depth c.args.self.now) c.args.most is (let some = c.if-most-eq0.false in omega arith) c.are_within_depth-in-Set.ensures

pub expr::Expr::is_within_depth-returns-in-Constructor : goal.expr::Expr::is_within_depth-returns-in-Constructor
expr::Expr::is_within_depth-returns-in-Constructor g t c =
    let is = ap expression_depth (ap expression_of c.in-Constructor.is ∙ of_constructor g.row.A.Denot _ c.in-Constructor.fields) ∙ ap (λ es. 1 + depths es) (sym c.deref-in-Constructor.ensures.value) in
    depth_within c.are_within_depth-in-Constructor.result (depths c.deref-in-Constructor.result.now) (one_depth c.args.self.now) c.args.most is (let some = c.if-most-eq0.false in omega arith) c.are_within_depth-in-Constructor.ensures
