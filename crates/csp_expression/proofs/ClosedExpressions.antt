-- The value of a closed, well-kinded expression, if there is none, is missing by no misfit of kinds.
use Rattle.std.proofs.Common.{◌≢◌, Err}
use Rattle.theory_syntax.specs.Expression.{Expression}
use Rattle.theory_syntax.specs.Types.{Types}
use Rattle.theory_semantics.specs.Meaning.Evaluation.{IllKinded, value}
use Rattle.theory_semantics.specs.Kinds.Values.{IsValueOf}
use Rattle.theory_semantics.proofs.Misfits.{gives_no_misfit}
use Rattle.theory_semantics.proofs.KindedValues.{value_kind}
use Rattle.csp_expression.specs.Closed.{IsClosedExpression}

pub no_misfit : (types : Types) (e : Expression) → IsClosedExpression types e → value types e ≢ Err IllKinded
no_misfit types e h = gives_no_misfit (λ v. IsValueOf types h.0 v h.1) (value types e) (value_kind types h.0 h.2 e h.1 h.3)
