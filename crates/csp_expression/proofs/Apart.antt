-- The order of expressions goes by their places where those differ.
use Rattle.std.proofs.Common.{◌≡◌, refl}
use Rattle.std.specs.Ordering.{nat_cmp}
use Rattle.theory_syntax.specs.Expression.{Expression, Literal, Name, Apply, Combine, SequenceOf, SetOf, Range, Datatype, Nametype, ConstructorOf}
use Rattle.theory_syntax.specs.Order.{expression_cmp, expression_place}
use Rattle.csp_expression.proofs.Variants.{Places}

pub expressions_apart : (e f : Expression) → ¬ (expression_place e ≡ expression_place f) → expression_cmp e f ≡ nat_cmp (expression_place e) (expression_place f)
expressions_apart (Literal v) (Literal w) differ = absurd (differ refl)
expressions_apart (Name m) (Name n) differ = absurd (differ refl)
expressions_apart (Apply op e) (Apply oq f) differ = absurd (differ refl)
expressions_apart (Combine op e f) (Combine oq g h) differ = absurd (differ refl)
expressions_apart (SequenceOf es) (SequenceOf fs) differ = absurd (differ refl)
expressions_apart (SetOf es) (SetOf fs) differ = absurd (differ refl)
expressions_apart (Range e f) (Range g h) differ = absurd (differ refl)
expressions_apart (Datatype m) (Datatype n) differ = absurd (differ refl)
expressions_apart (Nametype m) (Nametype n) differ = absurd (differ refl)
expressions_apart (ConstructorOf k es) (ConstructorOf l fs) differ = absurd (differ refl)
expressions_apart _ _ differ = refl

abbrev pub expressions : Places Expression
expressions = record { cmp = expression_cmp; place = expression_place; apart = expressions_apart }
