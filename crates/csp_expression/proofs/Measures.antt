-- The sizes and the depths of expressions together.
use Rattle.std.proofs.Common.{◌≡◌, ℕ, ◌+◌, ◌-◌, ◌<◌, ◌≤◌, max, Bool, false, IsTrue, ◌↔◌, Option, Some, None, List, sym, ◌∙◌, arith}
use Rattle.std.specs.Option.{SomeIff}
use Rattle.std.proofs.Math.Nat.{max-le, le-max_left, le-max_right}
use Rattle.theory_syntax.specs.Expression.{to_expressions}
use Rattle.theory_semantics.specs.Meaning.Limits.{expression_depth, expression_size, expressions_depth, expressions_size}
use Rattle.csp_expression.specs.declared.expr.Expr.{Expr}
use Rattle.csp_expression.specs.Expression.{expression_of, expressions_of}

abbrev pub one_size : {A : Type 0} → Expr A → ℕ
one_size e = expression_size (expression_of e)

abbrev pub sizes : {A : Type 0} → List (Expr A) → ℕ
sizes es = expressions_size (to_expressions (expressions_of es))

abbrev pub one_depth : {A : Type 0} → Expr A → ℕ
one_depth e = expression_depth (expression_of e)

abbrev pub depths : {A : Type 0} → List (Expr A) → ℕ
depths es = expressions_depth (to_expressions (expressions_of es))

-- ---- a form and its parts

pub size_left : (r : Option ℕ) (part whole rest room : ℕ) → whole ≡ 1 + part → 1 ≤ room → rest ≡ room - 1 → SomeIff r (part ≤ rest) (rest - part) → SomeIff r (whole ≤ room) (room - whole)
size_left None part whole rest room is some less h = λ all. h (omega arith)
size_left (Some x) part whole rest room is some less h = let within : part ≤ rest = h.0 in let left : x ≡ rest - part = h.1 in (omega arith, omega arith)

pub size_past : (first second whole rest room : ℕ) → whole ≡ 1 + (first + second) → 1 ≤ room → rest ≡ room - 1 → ¬ (first ≤ rest) → ¬ (whole ≤ room)
size_past first second whole rest room is some less more all = more (omega arith)

pub size_left_behind : (r : Option ℕ) (first second whole rest less room : ℕ) → whole ≡ 1 + (first + second) → 1 ≤ room → rest ≡ room - 1 → first ≤ rest → less ≡ rest - first → SomeIff r (second ≤ less) (less - second) → SomeIff r (whole ≤ room) (room - whole)
size_left_behind None first second whole rest less room is some a fits b h = λ all. h (omega arith)
size_left_behind (Some x) first second whole rest less room is some a fits b h = let within : second ≤ less = h.0 in let left : x ≡ less - second = h.1 in (omega arith, omega arith)

pub depth_within : (r : Bool) (part whole most : ℕ) → whole ≡ 1 + part → 0 < most → IsTrue r ↔ (part ≤ most - 1) → IsTrue r ↔ (whole ≤ most)
depth_within r part whole most is some told = (λ holds. let within : part ≤ most - 1 = told.0 holds in omega arith, λ all. told.1 (omega arith))

pub depth_both : (r : Bool) (first second whole most : ℕ) → whole ≡ 1 + max first second → 0 < most → first ≤ most - 1 → IsTrue r ↔ (second ≤ most - 1) → IsTrue r ↔ (whole ≤ most)
depth_both r first second whole most is some within told = (
  λ holds. let both : max first second ≤ most - 1 = max-le within (told.0 holds) in omega arith,
  λ all. let bound : second ≤ max first second = le-max_right first second in told.1 (omega arith),
)

pub depth_beyond : (r : Bool) (first second whole most : ℕ) → whole ≡ 1 + max first second → 0 < most → r ≡ false → IsTrue r ↔ (first ≤ most - 1) → IsTrue r ↔ (whole ≤ most)
depth_beyond r first second whole most is some fails told = (
  λ holds. absurd (cc (sym fails ∙ holds)),
  λ all. let bound : first ≤ max first second = le-max_left first second in told.1 (omega arith),
)
