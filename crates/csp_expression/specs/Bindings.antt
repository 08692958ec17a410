-- Names with the values that they stand for.
use Rattle.std.specs.Prelude.{List, map, Option, Some, None}
use denote.Ref.{Bor}
use Rattle.theory_syntax.specs.Value as pure
use Rattle.theory_syntax.specs.Expression.{Expression}
use Rattle.theory_semantics.specs.Meaning.Substitution.{Bindings, put_expression}
use Rattle.csp_value.specs.declared.value.Value.{Value}
use Rattle.csp_value.specs.Value.{value_of}
use Rattle.csp_expression.specs.declared.expr.Expr.{Expr}
use Rattle.csp_expression.specs.declared.substitution.Binding.{Binding}
use Rattle.csp_expression.specs.Expression.{expression_of}

abbrev pub bindings_of : {A : Type 0} → List (Binding A) → Bindings
bindings_of bs = map (λ b. (b.name.0, value_of b.value.now)) bs

-- the value that was found, if any
abbrev pub found_of : {A : Type 0} → Option (Bor (Value A)) → Option pure.Value
found_of (Some v) = Some (value_of v.now)
found_of None = None

-- what the expressions stand for with the values put in
abbrev pub puts : {A : Type 0} → Bindings → List (Expr A) → List Expression
puts bs es = map (λ e. put_expression bs (expression_of e)) es
