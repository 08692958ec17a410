-- Expressions that have a value, or a fault: without free names, and well-kinded.
use Rattle.std.specs.Prelude.{[]}
use Rattle.theory_syntax.specs.Expression.{Expression}
use Rattle.theory_syntax.specs.Types.{Types}
use Rattle.theory_semantics.specs.Kinds.Kind.{Kind, Kinds}
use Rattle.theory_semantics.specs.Kinds.Expressions.{HasKind}
use Rattle.theory_semantics.specs.Kinds.Scripts.{TypesHaveKinds}

-- The expression has a kind where no name has one, with some kinds that fit the types.
abbrev pub IsClosedExpression : Types → Expression → Type 0
IsClosedExpression types e = (kinds : Kinds) × (k : Kind) × TypesHaveKinds types kinds × HasKind types kinds [] e k
