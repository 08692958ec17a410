-- Expressions with the kinds of numbers ask in turn.
use Rattle.std.proofs.Common.{◌≡◌, ◌≢◌, ℕ, ◌+◌, ◌<◌, ◌≤◌, List, length, map, get_or, refl, sym, ◌∙◌, arith}
use Rattle.std.proofs.lemmas.List.{get_or_default, length-map}
use Rattle.theory_syntax.specs.Expression.{to_expressions}
use Rattle.theory_syntax.specs.Types.{Types}
use Rattle.theory_checking.specs.Inference.Chain as chain
use Rattle.theory_checking.specs.Inference.State.{KindEquation}
use Rattle.theory_checking.specs.Inference.Equations as numbers
use Rattle.theory_checking.specs.Inference.Expressions.{behind_expression, of_all, of_expression, of_first}
use Rattle.csp_expression.specs.declared.expr.Expr.{Expr}
use Rattle.csp_expression.specs.Expression.{expression_of, expressions_of}
use Rattle.csp_inference.specs.declared.chain.KindNumber.{KindNumber}
use Rattle.csp_inference.specs.declared.equations.Equations.{Equations}
use Rattle.csp_inference.specs.Equations.{AreHopeless, Asks}
use Rattle.csp_inference.proofs.Asking.{LeftBoth, all_are_first, both_more, both_none, many_hopeless, unequal_hopeless}
use Rattle.csp_inference.proofs.AskingExpressions.{behind_asked}

module _ {A : Type 0} (types : Types) (o : numbers.Numbering) (names : numbers.Numbered) where
  abbrev pub asked_first : ℕ → List (Expr A) → List KindNumber → List KindEquation
  asked_first n es ms = of_first types o n names (to_expressions (expressions_of es)) (map (λ m. m.0) ms)

  abbrev pub asked_all : ℕ → List (Expr A) → List KindNumber → List KindEquation
  asked_all n es ms = of_all types o n names (to_expressions (expressions_of es)) (map (λ m. m.0) ms)

  -- one expression more
  pub each_more : (start now new : Equations A) (es : List (Expr A)) (ms : List KindNumber) (i : ℕ) (e : Expr A) (d : KindNumber) →
      i < length es → length es ≤ length ms → e ≡ get_or es i e → LeftBoth asked_first behind_asked start now es ms i →
      Asks now new (of_expression types o now.next names (expression_of e) (chain.OpenEnd (get_or ms i d).0)) (behind_expression now.next (expression_of e)) →
      LeftBoth asked_first behind_asked start new es ms (i + 1)
  each_more start now new es ms i e d within few read left asks =
      let in_numbers : i < length ms = omega arith in
      both_more asked_first behind_asked start now es ms i (λ n x m. of_expression types o n names (expression_of x) (chain.OpenEnd m.0))
      (λ n x. behind_expression n (expression_of x)) new e (get_or ms i d) (λ n us vs. refl) (λ n us. refl) within in_numbers read
      (get_or_default ms i d (get_or ms i d) in_numbers) left asks

  pub each_all : (start now : Equations A) (es : List (Expr A)) (ms : List KindNumber) (i : ℕ) →
      length es ≤ i → LeftBoth asked_first behind_asked start now es ms i → Asks start now (asked_first start.next es ms) (behind_asked start.next es)
  each_all start now es ms i over left = both_none asked_first behind_asked start now es ms i (λ n vs. refl) (λ n. refl) over left

  pub unequal : (n : ℕ) (es : List (Expr A)) (ms : List KindNumber) → length es ≢ length ms → AreHopeless (asked_all n es ms)
  unequal n es ms differ = unequal_hopeless types o names n (expressions_of es) (map (λ m. m.0) ms) (λ same. differ (sym (length-map es expression_of) ∙ same ∙ length-map ms (λ m. m.0)))

  pub many : (n : ℕ) (es : List (Expr A)) (ms : List KindNumber) → length ms < length es → AreHopeless (asked_first n es ms)
  many n es ms more = many_hopeless types o names n (expressions_of es) (map (λ m. m.0) ms) (let left = length-map es expression_of in let right = length-map ms (λ m. m.0) in omega arith)

  pub all_first : (n : ℕ) (es : List (Expr A)) (ms : List KindNumber) → length es ≡ length ms → asked_first n es ms ≡ asked_all n es ms
  all_first n es ms same = all_are_first types o names n (expressions_of es) (map (λ m. m.0) ms) (length-map es expression_of ∙ same ∙ sym (length-map ms (λ m. m.0)))
