-- What is written, form by form.
use Rattle.std.proofs.Common.{◌≡◌, ◌∙◌, ℕ, Bool, List, sym, ap, ap₂}
use Rattle.std.specs.declared.boxed.Box.{Box}
use Rattle.std.specs.declared.vec.Vec.{Vec}
use Rattle.theory_syntax.specs.declared.operator.UnaryOperator.{UnaryOperator}
use Rattle.theory_syntax.specs.declared.operator.BinaryOperator.{BinaryOperator}
use Rattle.theory_syntax.specs.Operators.{binary_of, unary_of}
use Rattle.theory_text.specs.Raw.{RawExpression, RawNumber, RawTruth, RawBooleans, RawUse, RawApply, RawCombine, RawSequence, RawSet, RawRange, RawConstructor}
use Rattle.csp_parse.specs.declared.expressions.Expression.TheOpen as layer
use Rattle.csp_parse.specs.declared.expressions.Expression.TheFolds.{fold-roll-Expression}
use Rattle.csp_parse.specs.declared.expressions.Expression.TheVariants as views
use Rattle.csp_parse.specs.declared.expressions.Expression.{Expression}
use Rattle.csp_parse.specs.declared.names.Name.{Name}
use Rattle.csp_parse.specs.Expressions.{expression_step, expression_of, expressions_of}
use Rattle.csp_parse.specs.Names.{name_of}
use Rattle.csp_parse.proofs.Trees as trees

module _ {A : Type 0} (e : Expression A) where
  pub of_number : (n : ℕ) → e ≡ views.Number n → expression_of e ≡ RawNumber n
  of_number n is = ap expression_of is ∙ trees.tree_of_number A n

  pub of_truth : (b : Bool) → e ≡ views.Truth b → expression_of e ≡ RawTruth b
  of_truth b is = ap expression_of is ∙ trees.tree_of_truth A b

  pub of_booleans : e ≡ views.Booleans → expression_of e ≡ RawBooleans
  of_booleans is = ap expression_of is ∙ trees.tree_of_booleans A

  pub of_use : (n : Name) → e ≡ views.Use n → expression_of e ≡ RawUse (name_of n)
  of_use n is = ap expression_of is ∙ trees.tree_of_use A n

  pub of_apply : (op : UnaryOperator) (x : Box (Expression A) A) (read : Expression A) → e ≡ views.Apply op x → read ≡ x.value → expression_of e ≡ RawApply (unary_of op) (expression_of read)
  of_apply op x read is same = ap expression_of is ∙ ap (expression_of {A = A}) (sym (views.rolls-Apply op x)) ∙ fold-roll-Expression A RawExpression expression_step (layer.Apply op x) ∙ ap (λ y. RawApply (unary_of op) (expression_of y)) (sym same)

  pub of_combine : (op : BinaryOperator) (x y : Box (Expression A) A) (left right : Expression A) → e ≡ views.Combine op x y → left ≡ x.value → right ≡ y.value → expression_of e ≡ RawCombine (binary_of op) (expression_of left) (expression_of right)
  of_combine op x y left right is same alike = ap expression_of is ∙ trees.tree_of_combine A op x y ∙ ap₂ (λ u v. RawCombine (binary_of op) (expression_of u) (expression_of v)) (sym same) (sym alike)

  pub of_range : (x y : Box (Expression A) A) (from to : Expression A) → e ≡ views.Range x y → from ≡ x.value → to ≡ y.value → expression_of e ≡ RawRange (expression_of from) (expression_of to)
  of_range x y from to is same alike = ap expression_of is ∙ ap (expression_of {A = A}) (sym (views.rolls-Range x y)) ∙ fold-roll-Expression A RawExpression expression_step (layer.Range x y) ∙ ap₂ (λ u v. RawRange (expression_of u) (expression_of v)) (sym same) (sym alike)

  pub of_sequence : (items : Vec (Expression A) A) (read : List (Expression A)) → e ≡ views.Sequence items → read ≡ items.items → expression_of e ≡ RawSequence (expressions_of read)
  of_sequence items read is same = ap expression_of is ∙ trees.tree_of_sequence A items ∙ ap (λ es. RawSequence (expressions_of es)) (sym same)

  pub of_set : (members : Vec (Expression A) A) (read : List (Expression A)) → e ≡ views.Set members → read ≡ members.items → expression_of e ≡ RawSet (expressions_of read)
  of_set members read is same = ap expression_of is ∙ trees.tree_of_set A members ∙ ap (λ es. RawSet (expressions_of es)) (sym same)

  pub of_constructor : (n : Name) (fields : Vec (Expression A) A) (read : List (Expression A)) → e ≡ views.Constructor n fields → read ≡ fields.items → expression_of e ≡ RawConstructor (name_of n) (expressions_of read)
  of_constructor n fields read is same = ap expression_of is ∙ trees.tree_of_constructor A n fields ∙ ap (λ es. RawConstructor (name_of n) (expressions_of es)) (sym same)
