-- The shape of a term by numbers.
use Rattle.std.specs.Prelude.{◌≡◌, ℕ, ◌+◌, List, Result}
use Rattle.theory_syntax.specs.Value.{Event}
use Rattle.theory_syntax.specs.Process.{Script}
use Rattle.theory_shapes.specs.Measures.{levels, own_size}
use Rattle.theory_shapes.specs.Operators.{HasValues}
use Rattle.theory_shapes.specs.Shape as pure
use Rattle.csp_expression.specs.Agreement.{Agrees}
use Rattle.csp_expression.specs.declared.no_value.NoValue.{NoValue}
use Rattle.csp_rows.specs.declared.shape.Shape.{Shape}
use Rattle.csp_rows.specs.Numbering.{Numbering}
use Rattle.csp_rows.specs.Shapes.{IsShapeOf, Tree, tree_of}
use Rattle.csp_numbers.specs.Numbers.{NumbersEvents}
use Rattle.csp_numbers.specs.declared.measured_shape.MeasuredShape.{MeasuredShape}

-- it is the shape, of which the first hole has this number, whatever numbers these events by their places
abbrev pub IsByNumbers : {A : Type 0} → List Event → Script → ℕ → pure.Shape → Tree A → Type 0
IsByNumbers es script n s tree = (z : Numbering) → NumbersEvents es z → IsShapeOf z script n s tree

-- The sets and renamings of the shape have values, it is the shape by numbers, and the number after its holes is this one.
pub record IsShaped {A : Type 0} (es : List Event) (script : Script) (n : ℕ) (s : pure.Shape) (after : ℕ) (shape : Shape A) : Type 0 where
  pub values : HasValues script s
  pub same : IsByNumbers es script n s (tree_of shape)
  pub next : after ≡ n + pure.holes s

-- what is answered of a shape: that by numbers, or a cause, where a set or a renaming of it has no value
abbrev pub AnswersShape : {A : Type 0} → List Event → Script → ℕ → pure.Shape → ℕ → Result (Shape A) NoValue → Type 0
AnswersShape es script n s next x = Agrees (λ shape s. IsShaped es script n s next shape) (λ why s. HasValues script s → ⊥) x s

-- The shape by numbers, with what it measures. Its sets and renamings have values.
pub record IsMeasured {A : Type 0} (es : List Event) (script : Script) (s : pure.Shape) (m : MeasuredShape A) : Type 0 where
  pub values : HasValues script s
  pub same : IsByNumbers es script 0 s (tree_of m.shape)
  pub levels : m.levels.items ≡ levels s
  pub own_size : m.own_size ≡ own_size s
