-- What is to blame in an expression of each form, where it has no value.
use Rattle.std.proofs.Common.{◌≡◌, Option, Some, None, Result, Ok, Err, List, refl, sym, ◌∙◌, ap, subst}
use Rattle.std.specs.Option.{option_map, option_or}
use Rattle.std.specs.Result.{result_err}
use Rattle.std.specs.declared.boxed.Box.{Box}
use Rattle.std.specs.declared.vec.Vec.{Vec}
use Rattle.theory_syntax.specs.Expression.{Expression, to_expressions}
use Rattle.theory_syntax.specs.Types.{Types}
use Rattle.theory_syntax.specs.Value as pure
use Rattle.theory_syntax.specs.declared.operator.UnaryOperator.{UnaryOperator}
use Rattle.theory_syntax.specs.declared.operator.BinaryOperator.{BinaryOperator}
use Rattle.theory_semantics.specs.Meaning.Evaluation.{Cause, constructor_sets, value}
use Rattle.theory_faults.specs.Culprit.{Culprit, OfConstructor, over_sets}
use Rattle.theory_faults.specs.Expressions.{culprit, first_culprit, given_culprit, or_itself}
use Rattle.csp_value.specs.declared.name.ConId.{ConId}
use Rattle.csp_expression.specs.Cause.{cause_of}
use Rattle.csp_expression.specs.declared.cause.Cause as code
use Rattle.csp_expression.specs.declared.expr.Expr.{Expr}
use Rattle.csp_expression.specs.declared.expr.Expr.TheVariants as views
use Rattle.csp_expression.specs.Expression.{expression_of, expressions_of}
use Rattle.csp_value.specs.declared.memory.Memory.{Memory}
use Rattle.csp_faults.specs.Culprit.{Finds}
use Rattle.csp_faults.specs.declared.culprit.Culprit as found
use Rattle.csp_expression.proofs.ExpressionForms.{of_apply, of_combine, of_constructor, of_range, of_sequence, of_set}

-- the cause that was found is that of the result
pub lacks : (r : Result pure.Value Cause) (o : Option code.Cause) (c : code.Cause) → option_map cause_of o ≡ result_err r → o ≡ Some c → r ≡ Err (cause_of c)
lacks (Ok v) o c same is = let e : Some (cause_of c) ≡ None = ap (option_map cause_of) (sym is) ∙ same in absurd (cc e)
lacks (Err d) o c same is = let e : Some (cause_of c) ≡ Some d = ap (option_map cause_of) (sym is) ∙ same in let f : cause_of c ≡ d = cc e in ap Err (sym f)

module _ {A : Type 0} (types : Types) (e : Expr A) where
  abbrev Blames : Option Culprit → Type 0
  Blames found = or_itself types (expression_of e) found ≡ culprit types (expression_of e)

  -- what is told where the expression has no value
  pub in_form : (r : Result (Option (found.Culprit A)) Memory) (why : Option code.Cause) (c : code.Cause) → option_map cause_of why ≡ result_err (value types (expression_of e)) → why ≡ Some c →
      (inner o : Option Culprit) → (value types (expression_of e) ≡ Err (cause_of c) → Finds r (or_itself types (expression_of e) inner)) → inner ≡ o → Blames o → Finds r (culprit types (expression_of e))
  in_form r why c same is inner o told alike blames = subst (Finds r) (ap (or_itself types (expression_of e)) alike ∙ blames) (told (lacks (value types (expression_of e)) why c same is))

  pub at_apply : (op : UnaryOperator) (x : Box (Expr A) A) → e ≡ views.Apply op x → Blames (culprit types (expression_of x.value))
  at_apply op x is =
      let P : Expression → Type 0 = λ d. or_itself types d (culprit types (expression_of x.value)) ≡ culprit types d in
      subst P (sym (ap expression_of is ∙ of_apply A op x)) refl

  pub at_combine : (op : BinaryOperator) (x y : Box (Expr A) A) → e ≡ views.Combine op x y → Blames (option_or (culprit types (expression_of x.value)) (culprit types (expression_of y.value)))
  at_combine op x y is =
      let P : Expression → Type 0 = λ d. or_itself types d (option_or (culprit types (expression_of x.value)) (culprit types (expression_of y.value))) ≡ culprit types d in
      subst P (sym (ap expression_of is ∙ of_combine A op x y)) refl

  pub at_range : (x y : Box (Expr A) A) → e ≡ views.Range x y → Blames (option_or (culprit types (expression_of x.value)) (culprit types (expression_of y.value)))
  at_range x y is =
      let P : Expression → Type 0 = λ d. or_itself types d (option_or (culprit types (expression_of x.value)) (culprit types (expression_of y.value))) ≡ culprit types d in
      subst P (sym (ap expression_of is ∙ of_range A x y)) refl

  pub at_sequence : (es : Vec (Expr A) A) (items : List (Expr A)) → e ≡ views.Sequence es → items ≡ es.items → Blames (first_culprit types (to_expressions (expressions_of items)))
  at_sequence es items is read =
      let P : Expression → Type 0 = λ d. or_itself types d (first_culprit types (to_expressions (expressions_of es.items))) ≡ culprit types d in
      ap (λ xs. or_itself types (expression_of e) (first_culprit types (to_expressions (expressions_of xs)))) read ∙ subst P (sym (ap expression_of is ∙ of_sequence A es)) refl

  pub at_set : (es : Vec (Expr A) A) (items : List (Expr A)) → e ≡ views.Set es → items ≡ es.items → Blames (first_culprit types (to_expressions (expressions_of items)))
  at_set es items is read =
      let P : Expression → Type 0 = λ d. or_itself types d (first_culprit types (to_expressions (expressions_of es.items))) ≡ culprit types d in
      ap (λ xs. or_itself types (expression_of e) (first_culprit types (to_expressions (expressions_of xs)))) read ∙ subst P (sym (ap expression_of is ∙ of_set A es)) refl

  pub at_constructor : (k : ConId) (es : Vec (Expr A) A) (items : List (Expr A)) → e ≡ views.Constructor k es → items ≡ es.items →
      Blames (over_sets (constructor_sets types k.0) (λ sets. given_culprit types (OfConstructor k.0) 0 (to_expressions (expressions_of items)) sets))
  at_constructor k es items is read =
      let found = λ (xs : List (Expr A)). over_sets (constructor_sets types k.0) (λ sets. given_culprit types (OfConstructor k.0) 0 (to_expressions (expressions_of xs)) sets) in
      let P : Expression → Type 0 = λ d. or_itself types d (found es.items) ≡ culprit types d in
      ap (λ xs. or_itself types (expression_of e) (found xs)) read ∙ subst P (sym (ap expression_of is ∙ of_constructor A k es)) refl
