-- The values of arguments one after the other.
use Rattle.std.proofs.Common.{◌≡◌, ℕ, ◌+◌, ◌<◌, List, [], ◌∷◌, ◌++◌, length, take, drop, get_or, Ok, Err, sym, ◌∙◌, ap}
use Rattle.std.proofs.lemmas.List.{take_more, drop_more, take-append-drop, map-append}
use Rattle.theory_syntax.specs.Expression.{to_expressions}
use Rattle.theory_syntax.specs.Types.{Types}
use Rattle.theory_semantics.specs.Meaning.Evaluation.{value, values}
use Rattle.csp_expression.specs.declared.expr.Expr.{Expr}
use Rattle.csp_expression.specs.declared.no_value.NoValue.{NoValue}
use Rattle.csp_expression.specs.declared.no_value.NoValue.TheVariants as eval
use Rattle.csp_expression.specs.declared.seen.Seen.{Seen}
use Rattle.csp_expression.specs.Evaluation.{Sees, seen_value}
use Rattle.csp_expression.specs.Expression.{expression_of, expressions_of}
use Rattle.csp_expression.specs.Cause.{cause_of}
use Rattle.theory_semantics.specs.Meaning.Substitution.{Bindings, put_expression, put_expressions}
use Rattle.csp_expression.specs.Bindings.{puts}
use Rattle.csp_expression.proofs.ExpressionPutting.{put_list}
use Rattle.csp_expression.proofs.Evaluating.{value_more, value_stops}
use Rattle.csp_settling.specs.Arguments.{SeesAll, seen_values}

-- the values of the first i arguments with the values put in are these
abbrev pub SeenSoFar : {A : Type 0} → Types → Bindings → List (Expr A) → ℕ → List (Seen A) → Type 0
SeenSoFar types bs items i all = values types (to_expressions (puts bs (take i items))) ≡ Ok (seen_values all)

module _ {A : Type 0} (types : Types) (bs : Bindings) (items : List (Expr A)) (i : ℕ) (all : List (Seen A)) (item : Expr A) (so_far : SeenSoFar types bs items i all) (within : i < length items) (read : item ≡ get_or items i item) where
  -- the argument's value is the next
  pub seen_more : (x : Seen A) (more : List (Seen A)) → value types (put_expression bs (expression_of item)) ≡ Ok (seen_value x) → more ≡ all ++ x ∷ [] → SeenSoFar types bs items (i + 1) more
  seen_more x more one pushed =
      let longer = take_more items i item within ∙ ap (λ z. take i items ++ z ∷ []) (sym read) in
      ap (λ es. values types (to_expressions (puts bs es))) longer ∙ ap (λ es. values types (to_expressions es)) (map-append (λ e. put_expression bs (expression_of e)) (take i items) (item ∷ []))
      ∙ value_more types (puts bs (take i items)) (put_expression bs (expression_of item)) (seen_values all) (seen_value x) so_far one ∙ ap Ok (sym (map-append seen_value all (x ∷ [])) ∙ ap seen_values (sym pushed))

  -- it has no value
  pub seen_none : (fault : NoValue) → Sees {A = A} (Err fault) (value types (put_expression bs (expression_of item))) → SeesAll {A = A} (Err fault) (values types (put_expressions bs (to_expressions (expressions_of items))))
  seen_none eval.Memory none = tt
  seen_none (eval.Cause c) none =
      let rest = drop_more items i item within ∙ ap (λ z. z ∷ drop (i + 1) items) (sym read) in
      let whole = sym (take-append-drop i items) ∙ ap (λ zs. take i items ++ zs) rest in
      ap (values types) (sym (put_list bs items)) ∙ ap (λ es. values types (to_expressions (puts bs es))) whole ∙ ap (λ es. values types (to_expressions es)) (map-append (λ e. put_expression bs (expression_of e)) (take i items) (item ∷ drop (i + 1) items))
      ∙ value_stops types (puts bs (take i items)) (puts bs (drop (i + 1) items)) (put_expression bs (expression_of item)) (seen_values all) (cause_of c) so_far none
