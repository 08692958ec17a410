-- The derived `==` is true exactly where two expressions stand for the same.
use denote.RattleType
use mir.Syntax
use Rattle.std.proofs.Common.{Bool, sym, ap, ◌∙◌}
use Rattle.std.specs.declared.alloc.Allocator as allocator
use Rattle.std.specs.Ordering.{is_eq}
use Rattle.theory_syntax.specs.Order.{expression_cmp}
use Rattle.theory_syntax.proofs.Equalities.{is_eq-Equal}
use Rattle.theory_syntax.proofs.ProcessOrder.{expression_same, expression_refl}
use Rattle.csp_expression.specs.declared.expr.Expr.{Expr}
use Rattle.csp_expression.specs.contracts.expr.ExprPartialEq.TheImpl as impl
use Rattle.csp_expression.specs.contracts.expr.ExprOrd.TheImpl.Laws as laws
use Rattle.csp_expression.specs.Expression.{expression_of}
use Rattle.csp_expression.proofs.ExpressionOrder.{cmp, ordered}
use Rattle.csp_value.proofs.Sameness.{Tells}

module _ (R : RattleType.RattleType) (A : allocator.Ghosts R.Denot) (ad dd : Syntax.Dict) where
  abbrev pub expression_eq : Expr R.Denot → Expr R.Denot → Bool
  expression_eq = (impl.ghosts R A ad dd).eq

  pub expression_tells : Tells expression_eq (expression_of {A = R.Denot})
  expression_tells = record {
    sound = λ x y e.
        expression_same (expression_of x) (expression_of y)
        (sym (ordered R A ad dd x y) ∙ is_eq-Equal (cmp R A ad dd x y) (sym (laws.matches_eq-law R A ad dd x y) ∙ e));
    complete = λ x y e.
        laws.matches_eq-law R A ad dd x y ∙ ap is_eq (ordered R A ad dd x y ∙ ap (expression_cmp (expression_of x)) (sym e) ∙ expression_refl (expression_of x));
  }
