-- Expressions ask part by part.
use Rattle.std.proofs.Common.{◌≡◌, ℕ, zero, suc, ◌<◌, length, get_or, arith, List, [], ◌∷◌, ◌++◌, refl, sym, ◌∙◌, ap, ap₂}
use Rattle.std.specs.declared.boxed.Box.{Box}
use Rattle.std.specs.declared.vec.Vec.{Vec}
use Rattle.theory_syntax.specs.Expression as pure
use Rattle.theory_syntax.specs.Expression.{to_expressions}
use Rattle.theory_syntax.specs.Types.{Types}
use Rattle.theory_semantics.specs.Meaning.Limits.{expression_size, expressions_size}
use Rattle.theory_checking.specs.Inference.Chain as chain
use Rattle.theory_checking.specs.Inference.State.{KindEquation}
use Rattle.theory_checking.specs.Inference.Equations as numbers
use Rattle.theory_checking.specs.Inference.Expressions.{behind_unary, operand, unary_value, behind_binary, left_operand, right_operand, binary_value, behind_expression, behind_expressions, of_expression, of_expressions}
use Rattle.csp_value.specs.declared.name.ConId.{ConId}
use Rattle.csp_expression.specs.declared.expr.Expr.{Expr}
use Rattle.csp_expression.specs.declared.expr.Expr.TheVariants as views
use Rattle.theory_syntax.specs.declared.operator.UnaryOperator.{UnaryOperator}
use Rattle.theory_syntax.specs.declared.operator.BinaryOperator.{BinaryOperator}
use Rattle.csp_expression.specs.Expression.{expression_of, expressions_of}
use Rattle.theory_syntax.specs.Operators.{binary_of, unary_of}
use Rattle.csp_expression.proofs.ExpressionForms as forms
use Rattle.csp_inference.specs.declared.equations.Equations.{Equations}
use Rattle.csp_inference.specs.Equations.{Adds, Asks, exactly}
use Rattle.csp_inference.proofs.Asking.{asks_same, asks_then}

-- the equations of expressions of the code, and the next number behind them
abbrev pub asked_expressions : {A : Type 0} → Types → numbers.Numbering → numbers.Numbered → chain.Chain → ℕ → List (Expr A) → List KindEquation
asked_expressions types o names k n es = of_expressions types o n names (to_expressions (expressions_of es)) k

abbrev pub behind_asked : {A : Type 0} → ℕ → List (Expr A) → ℕ
behind_asked n es = behind_expressions n (to_expressions (expressions_of es))

-- ---- the expression of each form, by its parts as they are read

pub of_apply : {A : Type 0} (e : Expr A) (op : UnaryOperator) (x : Box (Expr A) A) (read : Expr A) →
    e ≡ views.Apply op x → read ≡ x.value → expression_of e ≡ pure.Apply (unary_of op) (expression_of read)
of_apply {A} e op x read is same = ap expression_of is ∙ forms.of_apply A op x ∙ ap (λ y. pure.Apply (unary_of op) (expression_of y)) (sym same)

pub of_combine : {A : Type 0} (e : Expr A) (op : BinaryOperator) (x y : Box (Expr A) A) (left right : Expr A) →
    e ≡ views.Combine op x y → left ≡ x.value → right ≡ y.value → expression_of e ≡ pure.Combine (binary_of op) (expression_of left) (expression_of right)
of_combine {A} e op x y left right is same alike = ap expression_of is ∙ forms.of_combine A op x y ∙ ap₂ (λ u v. pure.Combine (binary_of op) (expression_of u) (expression_of v)) (sym same) (sym alike)

pub of_range : {A : Type 0} (e : Expr A) (x y : Box (Expr A) A) (from to : Expr A) →
    e ≡ views.Range x y → from ≡ x.value → to ≡ y.value → expression_of e ≡ pure.Range (expression_of from) (expression_of to)
of_range {A} e x y from to is same alike = ap expression_of is ∙ forms.of_range A x y ∙ ap₂ (λ u v. pure.Range (expression_of u) (expression_of v)) (sym same) (sym alike)

pub of_sequence : {A : Type 0} (e : Expr A) (items : Vec (Expr A) A) (read : List (Expr A)) →
    e ≡ views.Sequence items → read ≡ items.items → expression_of e ≡ pure.SequenceOf (to_expressions (expressions_of read))
of_sequence {A} e items read is same = ap expression_of is ∙ forms.of_sequence A items ∙ ap (λ es. pure.SequenceOf (to_expressions (expressions_of es))) (sym same)

pub of_set : {A : Type 0} (e : Expr A) (members : Vec (Expr A) A) (read : List (Expr A)) →
    e ≡ views.Set members → read ≡ members.items → expression_of e ≡ pure.SetOf (to_expressions (expressions_of read))
of_set {A} e members read is same = ap expression_of is ∙ forms.of_set A members ∙ ap (λ es. pure.SetOf (to_expressions (expressions_of es))) (sym same)

pub of_constructor : {A : Type 0} (e : Expr A) (k : ConId) (fields : Vec (Expr A) A) (read : List (Expr A)) →
    e ≡ views.Constructor k fields → read ≡ fields.items → expression_of e ≡ pure.ConstructorOf k.0 (to_expressions (expressions_of read))
of_constructor {A} e k fields read is same =
    ap expression_of is ∙ forms.of_constructor A k fields ∙ ap (λ es. pure.ConstructorOf k.0 (to_expressions (expressions_of es))) (sym same)

-- a part is smaller than the expressions that it is one of
pub part_size : {A : Type 0} (es : List (Expr A)) (i : ℕ) (e : Expr A) →
    i < length es → e ≡ get_or es i e → expression_size (expression_of e) < suc (expressions_size (to_expressions (expressions_of es)))
part_size [] i e within read = absurd (omega arith)
part_size (x ∷ xs) zero e within read = let same = ap (λ y. expression_size (expression_of y)) read in omega arith
part_size (x ∷ xs) (suc i) e within read = let smaller = part_size xs i e (omega arith) read in omega arith

-- ---- what each form asks

module _ {A : Type 0} (types : Types) (o : numbers.Numbering) (names : numbers.Numbered) (k : chain.Chain) (s : Equations A) (e : pure.Expression) where
  -- What the whole expression asks, when the equations are those of t.
  abbrev pub Asked : Equations A → Type 0
  Asked t = Asks s t (of_expression types o s.next names e k) (behind_expression s.next e)

  abbrev pub Part : Equations A → Equations A → pure.Expression → chain.Chain → Type 0
  Part t u x c = Asks t u (of_expression types o t.next names x c) (behind_expression t.next x)

  pub whole : (t : Equations A) (x : pure.Expression) → e ≡ x → Asks s t (of_expression types o s.next names x k) (behind_expression s.next x) → Asked t
  whole t x is h =
      asks_same s t (of_expression types o s.next names x k) (of_expression types o s.next names e k) (behind_expression s.next x) (behind_expression s.next e)
      (ap (λ y. of_expression types o s.next names y k) (sym is)) (ap (behind_expression s.next) (sym is)) h

  pub asked_apply : (t u : Equations A) (op : pure.Unary) (x : pure.Expression) (n : ℕ) (c : chain.Chain) →
      e ≡ pure.Apply op x → n ≡ s.next → c ≡ operand op n → Adds s t ((unary_value op s.next, k) ∷ []) (behind_unary op s.next) → Part t u x c → Asked u
  asked_apply t u op x n c is numbered kind opened part =
      whole u (pure.Apply op x) is
      (asks_then s t u ((unary_value op s.next, k) ∷ []) (behind_unary op s.next) (λ m. of_expression types o m names x (operand op s.next)) (λ m. behind_expression m x) (exactly opened)
      (asks_same t u (of_expression types o t.next names x c) (of_expression types o t.next names x (operand op s.next)) (behind_expression t.next x)
      (behind_expression t.next x) (ap (of_expression types o t.next names x) (kind ∙ ap (operand op) numbered)) refl part))

  pub asked_combine : (t u v : Equations A) (op : pure.Binary) (x y : pure.Expression) (n : ℕ) (c d : chain.Chain) →
      e ≡ pure.Combine op x y → n ≡ s.next → c ≡ left_operand op n → d ≡ right_operand op n →
      Adds s t ((binary_value op s.next, k) ∷ []) (behind_binary op s.next) → Part t u x c → Part u v y d → Asked v
  asked_combine t u v op x y n c d is numbered left right opened first second =
      let front = asks_then s t u ((binary_value op s.next, k) ∷ []) (behind_binary op s.next) (λ m. of_expression types o m names x (left_operand op s.next)) (λ m. behind_expression m x) (exactly opened)
      (asks_same t u (of_expression types o t.next names x c) (of_expression types o t.next names x (left_operand op s.next)) (behind_expression t.next x)
      (behind_expression t.next x) (ap (of_expression types o t.next names x) (left ∙ ap (left_operand op) numbered)) refl first) in
      whole v (pure.Combine op x y) is
      (asks_then s u v (((binary_value op s.next, k) ∷ []) ++ of_expression types o (behind_binary op s.next) names x (left_operand op s.next))
      (behind_expression (behind_binary op s.next) x) (λ m. of_expression types o m names y (right_operand op s.next)) (λ m. behind_expression m y) front
      (asks_same u v (of_expression types o u.next names y d) (of_expression types o u.next names y (right_operand op s.next)) (behind_expression u.next y)
      (behind_expression u.next y) (ap (of_expression types o u.next names y) (right ∙ ap (right_operand op) numbered)) refl second))

  pub asked_range : (t u v : Equations A) (x y : pure.Expression) →
      e ≡ pure.Range x y → Adds s t ((chain.SetOver chain.IntEnd, k) ∷ []) s.next → Part t u x chain.IntEnd → Part u v y chain.IntEnd → Asked v
  asked_range t u v x y is opened first second =
      let front = asks_then s t u ((chain.SetOver chain.IntEnd, k) ∷ []) s.next (λ m. of_expression types o m names x chain.IntEnd) (λ m. behind_expression m x) (exactly opened) first in
      whole v (pure.Range x y) is
      (asks_then s u v (((chain.SetOver chain.IntEnd, k) ∷ []) ++ of_expression types o s.next names x chain.IntEnd) (behind_expression s.next x)
      (λ m. of_expression types o m names y chain.IntEnd) (λ m. behind_expression m y) front second)

  pub asked_sequence : (t u : Equations A) (xs : pure.Expressions) (n : ℕ) →
      e ≡ pure.SequenceOf xs → n ≡ s.next → Adds s t ((chain.SequenceOver (chain.OpenEnd s.next), k) ∷ []) (suc s.next) →
      Asks t u (of_expressions types o t.next names xs (chain.OpenEnd n)) (behind_expressions t.next xs) → Asked u
  asked_sequence t u xs n is numbered opened parts =
      whole u (pure.SequenceOf xs) is
      (asks_then s t u ((chain.SequenceOver (chain.OpenEnd s.next), k) ∷ []) (suc s.next) (λ m. of_expressions types o m names xs (chain.OpenEnd s.next)) (λ m. behind_expressions m xs) (exactly opened)
      (asks_same t u (of_expressions types o t.next names xs (chain.OpenEnd n)) (of_expressions types o t.next names xs (chain.OpenEnd s.next))
      (behind_expressions t.next xs) (behind_expressions t.next xs) (ap (λ m. of_expressions types o t.next names xs (chain.OpenEnd m)) numbered) refl parts))

  pub asked_set : (t u : Equations A) (xs : pure.Expressions) (n : ℕ) →
      e ≡ pure.SetOf xs → n ≡ s.next → Adds s t ((chain.SetOver (chain.OpenEnd s.next), k) ∷ []) (suc s.next) →
      Asks t u (of_expressions types o t.next names xs (chain.OpenEnd n)) (behind_expressions t.next xs) → Asked u
  asked_set t u xs n is numbered opened parts =
      whole u (pure.SetOf xs) is
      (asks_then s t u ((chain.SetOver (chain.OpenEnd s.next), k) ∷ []) (suc s.next) (λ m. of_expressions types o m names xs (chain.OpenEnd s.next)) (λ m. behind_expressions m xs) (exactly opened)
      (asks_same t u (of_expressions types o t.next names xs (chain.OpenEnd n)) (of_expressions types o t.next names xs (chain.OpenEnd s.next))
      (behind_expressions t.next xs) (behind_expressions t.next xs) (ap (λ m. of_expressions types o t.next names xs (chain.OpenEnd m)) numbered) refl parts))
