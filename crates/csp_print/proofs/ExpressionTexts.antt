-- The texts and the sizes of expressions.
use Rattle.std.proofs.Common.{◌≡◌, ℕ, zero, suc, ◌<◌, ◌≤◌, List, [], ◌∷◌, ◌++◌, length, get_or, refl, ap, arith}
use Rattle.std.proofs.lemmas.Bool.Decides.{Decides-eqb}
use Rattle.std.specs.Prelude.{codes, ◌==◌, false, true}
use Rattle.theory_syntax.specs.Expression as pure
use Rattle.theory_syntax.specs.Expression.{to_expressions}
use Rattle.theory_semantics.specs.Meaning.Limits.{expression_size, expressions_size}
use Rattle.theory_search.specs.Printing.{name_at}
use Rattle.csp_expression.specs.declared.expr.Expr.{Expr}
use Rattle.csp_expression.specs.Expression.{expression_of, expressions_of}
use Rattle.theory_notation.specs.Names.{Names}
use Rattle.theory_notation.specs.Expressions.{expression_text, expressions_behind}

-- a constructor that has fields
pub with_fields : {A : Type 0} (names : Names) (k : ℕ) (fields : List (Expr A)) → (length fields == 0) ≡ false →
    codes "(" ++ (name_at names.constructors k ++ (expressions_behind names (codes ".") 6 (to_expressions (expressions_of fields)) ++ codes ")")) ≡
    expression_text names (pure.ConstructorOf k (to_expressions (expressions_of fields)))
with_fields names k [] some = absurd (cc some)
with_fields names k (e ∷ es) some = refl

-- one of several is no larger than all of them
pub part_size : {A : Type 0} (expressions : List (Expr A)) (i : ℕ) (e : Expr A) → i < length expressions → e ≡ get_or expressions i e →
    expression_size (expression_of e) ≤ expressions_size (to_expressions (expressions_of expressions))
part_size [] i e within read = absurd (omega (arith, within))
part_size (f ∷ es) zero e within read =
    let same : expression_size (expression_of e) ≡ expression_size (expression_of f) = ap (λ u. expression_size (expression_of u)) read in
    omega (arith, same)
part_size (f ∷ es) (suc i) e within read =
    let h : suc i < suc (length es) = within in
    let rest = part_size es i e (omega (arith, h)) read in
    omega (arith, rest)

-- and one that has none
pub without_fields : {A : Type 0} (names : Names) (k : ℕ) (fields : List (Expr A)) → (length fields == 0) ≡ true →
    name_at names.constructors k ≡ expression_text names (pure.ConstructorOf k (to_expressions (expressions_of fields)))
without_fields names k [] none = refl
without_fields names k (e ∷ es) none =
    let h : suc (length es) ≡ 0 = (Decides-eqb (suc (length es)) 0).0 none in
    absurd (omega (arith, h))
