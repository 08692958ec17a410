-- The order of expressions is total.
use Rattle.std.proofs.Common.{◌≡◌, ◌<◌, refl, sym, ap, inl, inr, ◌⊎◌, ⊎_elim, arith}
use Rattle.std.specs.declared.cmp.Ordering.TheVariants.{Less}
use Rattle.std.specs.Ordering.{nat_cmp, ordering_then, ordering_reverse}
use Rattle.std.specs.Cmp.{IsTotalOrder, nat_cmp_is}
use Rattle.std.specs.FinMap.{nat_cmp-IsAntisymmetric}
use Rattle.std.proofs.lemmas.Cmp.{ranked, nat_cmp_total}
use Rattle.theory_syntax.specs.Expression.{Expression, Literal, Name, Apply, Combine, SequenceOf, SetOf, Range, Booleans, Datatype, Nametype, ConstructorOf, Expressions, no_expressions, expression_and}
use Rattle.theory_syntax.specs.Order.{binary_place, expression_cmp, expression_place, expressions_cmp, unary_place}
use Rattle.theory_syntax.proofs.Orders.{then_reverse, then_trans, value_total}
use Rattle.theory_syntax.proofs.ProcessOrder.{expression_same, expressions_same}

mutual
  expression_reverse : (v w : Expression) → expression_cmp v w ≡ ordering_reverse (expression_cmp w v)
  expression_reverse (Literal x1) (Literal y1) = value_total.antisymm x1 y1
  expression_reverse (Name x1) (Name y1) = nat_cmp_total.antisymm x1 y1
  expression_reverse (Apply x1 x2) (Apply y1 y2) = then_reverse (nat_cmp (unary_place x1) (unary_place y1)) (expression_cmp x2 y2) (nat_cmp (unary_place y1) (unary_place x1)) (expression_cmp y2 x2) (nat_cmp_total.antisymm (unary_place x1) (unary_place y1)) (expression_reverse x2 y2)
  expression_reverse (Combine x1 x2 x3) (Combine y1 y2 y3) = then_reverse (nat_cmp (binary_place x1) (binary_place y1)) (ordering_then (expression_cmp x2 y2) (expression_cmp x3 y3)) (nat_cmp (binary_place y1) (binary_place x1)) (ordering_then (expression_cmp y2 x2) (expression_cmp y3 x3)) (nat_cmp_total.antisymm (binary_place x1) (binary_place y1)) (then_reverse (expression_cmp x2 y2) (expression_cmp x3 y3) (expression_cmp y2 x2) (expression_cmp y3 x3) (expression_reverse x2 y2) (expression_reverse x3 y3))
  expression_reverse (SequenceOf x1) (SequenceOf y1) = expressions_reverse x1 y1
  expression_reverse (SetOf x1) (SetOf y1) = expressions_reverse x1 y1
  expression_reverse (Range x1 x2) (Range y1 y2) = then_reverse (expression_cmp x1 y1) (expression_cmp x2 y2) (expression_cmp y1 x1) (expression_cmp y2 x2) (expression_reverse x1 y1) (expression_reverse x2 y2)
  expression_reverse Booleans Booleans = refl
  expression_reverse (Datatype x1) (Datatype y1) = nat_cmp_total.antisymm x1 y1
  expression_reverse (Nametype x1) (Nametype y1) = nat_cmp_total.antisymm x1 y1
  expression_reverse (ConstructorOf x1 x2) (ConstructorOf y1 y2) = then_reverse (nat_cmp x1 y1) (expressions_cmp x2 y2) (nat_cmp y1 x1) (expressions_cmp y2 x2) (nat_cmp_total.antisymm x1 y1) (expressions_reverse x2 y2)
  expression_reverse _ _ = refl

  expressions_reverse : (es fs : Expressions) → expressions_cmp es fs ≡ ordering_reverse (expressions_cmp fs es)
  expressions_reverse no_expressions no_expressions = refl
  expressions_reverse no_expressions (expression_and f fs) = refl
  expressions_reverse (expression_and e es) no_expressions = refl
  expressions_reverse (expression_and e es) (expression_and f fs) = then_reverse (expression_cmp e f) (expressions_cmp es fs) (expression_cmp f e) (expressions_cmp fs es) (expression_reverse e f) (expressions_reverse es fs)

-- terms of different forms are ordered by their forms
expression_less : (v w : Expression) → expression_cmp v w ≡ Less → (expression_place v < expression_place w) ⊎ (expression_place v ≡ expression_place w)
expression_less (Literal x1) (Literal y1) e = inr refl
expression_less (Name x1) (Name y1) e = inr refl
expression_less (Apply x1 x2) (Apply y1 y2) e = inr refl
expression_less (Combine x1 x2 x3) (Combine y1 y2 y3) e = inr refl
expression_less (SequenceOf x1) (SequenceOf y1) e = inr refl
expression_less (SetOf x1) (SetOf y1) e = inr refl
expression_less (Range x1 x2) (Range y1 y2) e = inr refl
expression_less (Datatype x1) (Datatype y1) e = inr refl
expression_less (Nametype x1) (Nametype y1) e = inr refl
expression_less (ConstructorOf x1 x2) (ConstructorOf y1 y2) e = inr refl
expression_less v w e = inl (ranked (expression_place v) (expression_place w) Less (sym e))

expression_apart : (v w : Expression) → expression_place v < expression_place w → expression_cmp v w ≡ Less
expression_apart (Literal x1) (Literal y1) h = absurd (omega (arith, h))
expression_apart (Name x1) (Name y1) h = absurd (omega (arith, h))
expression_apart (Apply x1 x2) (Apply y1 y2) h = absurd (omega (arith, h))
expression_apart (Combine x1 x2 x3) (Combine y1 y2 y3) h = absurd (omega (arith, h))
expression_apart (SequenceOf x1) (SequenceOf y1) h = absurd (omega (arith, h))
expression_apart (SetOf x1) (SetOf y1) h = absurd (omega (arith, h))
expression_apart (Range x1 x2) (Range y1 y2) h = absurd (omega (arith, h))
expression_apart (Datatype x1) (Datatype y1) h = absurd (omega (arith, h))
expression_apart (Nametype x1) (Nametype y1) h = absurd (omega (arith, h))
expression_apart (ConstructorOf x1 x2) (ConstructorOf y1 y2) h = absurd (omega (arith, h))
expression_apart v w h = sym (nat_cmp_is (expression_place v) (expression_place w) Less h)

expression_mixed : (u v w : Expression) → (expression_place u ≡ expression_place v → expression_place v ≡ expression_place w → ⊥) → expression_cmp u v ≡ Less → expression_cmp v w ≡ Less → expression_cmp u w ≡ Less
expression_mixed u v w other e f =
    expression_apart u w
    (⊎_elim (λ p. ⊎_elim (λ q. omega (arith, p, q)) (λ q. omega (arith, p, q)) (expression_less v w f)) (λ p. ⊎_elim (λ q. omega (arith, p, q)) (λ q. absurd (other p q)) (expression_less v w f)) (expression_less u v e))

mutual
  expression_trans : (u v w : Expression) → expression_cmp u v ≡ Less → expression_cmp v w ≡ Less → expression_cmp u w ≡ Less
  expression_trans (Literal x1) (Literal y1) (Literal z1) e f = value_total.trans x1 y1 z1 e f
  expression_trans (Name x1) (Name y1) (Name z1) e f = nat_cmp_total.trans x1 y1 z1 e f
  expression_trans (Apply x1 x2) (Apply y1 y2) (Apply z1 z2) e f = then_trans nat_cmp nat_cmp-IsAntisymmetric (unary_place x1) (unary_place y1) (unary_place z1) (nat_cmp_total.trans (unary_place x1) (unary_place y1) (unary_place z1)) (expression_cmp x2 y2) (expression_cmp y2 z2) (expression_cmp x2 z2) (expression_trans x2 y2 z2) e f
  expression_trans (Combine x1 x2 x3) (Combine y1 y2 y3) (Combine z1 z2 z3) e f = then_trans nat_cmp nat_cmp-IsAntisymmetric (binary_place x1) (binary_place y1) (binary_place z1) (nat_cmp_total.trans (binary_place x1) (binary_place y1) (binary_place z1)) (ordering_then (expression_cmp x2 y2) (expression_cmp x3 y3)) (ordering_then (expression_cmp y2 z2) (expression_cmp y3 z3)) (ordering_then (expression_cmp x2 z2) (expression_cmp x3 z3)) (then_trans expression_cmp expression_same x2 y2 z2 (expression_trans x2 y2 z2) (expression_cmp x3 y3) (expression_cmp y3 z3) (expression_cmp x3 z3) (expression_trans x3 y3 z3)) e f
  expression_trans (SequenceOf x1) (SequenceOf y1) (SequenceOf z1) e f = expressions_trans x1 y1 z1 e f
  expression_trans (SetOf x1) (SetOf y1) (SetOf z1) e f = expressions_trans x1 y1 z1 e f
  expression_trans (Range x1 x2) (Range y1 y2) (Range z1 z2) e f = then_trans expression_cmp expression_same x1 y1 z1 (expression_trans x1 y1 z1) (expression_cmp x2 y2) (expression_cmp y2 z2) (expression_cmp x2 z2) (expression_trans x2 y2 z2) e f
  expression_trans Booleans Booleans w e f = absurd (cc e)
  expression_trans (Datatype x1) (Datatype y1) (Datatype z1) e f = nat_cmp_total.trans x1 y1 z1 e f
  expression_trans (Nametype x1) (Nametype y1) (Nametype z1) e f = nat_cmp_total.trans x1 y1 z1 e f
  expression_trans (ConstructorOf x1 x2) (ConstructorOf y1 y2) (ConstructorOf z1 z2) e f = then_trans nat_cmp nat_cmp-IsAntisymmetric x1 y1 z1 (nat_cmp_total.trans x1 y1 z1) (expressions_cmp x2 y2) (expressions_cmp y2 z2) (expressions_cmp x2 z2) (expressions_trans x2 y2 z2) e f
  expression_trans u v w e f = expression_mixed u v w (λ p q. omega (arith, p, q)) e f

  expressions_trans : (us vs ws : Expressions) → expressions_cmp us vs ≡ Less → expressions_cmp vs ws ≡ Less → expressions_cmp us ws ≡ Less
  expressions_trans no_expressions no_expressions ws e f = f
  expressions_trans no_expressions (expression_and v vs) no_expressions e f = absurd (cc f)
  expressions_trans no_expressions (expression_and v vs) (expression_and w ws) e f = refl
  expressions_trans (expression_and u us) no_expressions ws e f = absurd (cc e)
  expressions_trans (expression_and u us) (expression_and v vs) no_expressions e f = f
  expressions_trans (expression_and u us) (expression_and v vs) (expression_and w ws) e f =
      then_trans expression_cmp expression_same u v w (expression_trans u v w) (expressions_cmp us vs) (expressions_cmp vs ws) (expressions_cmp us ws) (expressions_trans us vs ws) e f

pub expression_total : IsTotalOrder expression_cmp
expression_total = record { antisymm = expression_reverse; trans = expression_trans; congr = λ x y z e. ap (λ w. expression_cmp w z) (expression_same x y e) }

pub expressions_total : IsTotalOrder expressions_cmp
expressions_total = record { antisymm = expressions_reverse; trans = expressions_trans; congr = λ x y z e. ap (λ w. expressions_cmp w z) (expressions_same x y e) }
