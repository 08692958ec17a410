-- The derived order of operators is that of their places.
use Rattle.std.proofs.Common.{◌≡◌, ℕ, zero, suc, ◌<◌, ◌⊎◌, refl, ◌∙◌, ap, ap₂, arith, inl, inr}
use Rattle.std.proofs.Math.Logic.{⊎_elim}
use Rattle.std.specs.declared.cmp.Ordering.{Ordering}
use Rattle.std.specs.declared.cmp.Ordering.TheVariants.{Less, Equal, Greater}
use Rattle.std.specs.Ordering.{MatchOrdering, nat_cmp}
use Rattle.std.specs.Cmp.{nat_cmp_is, ranks}
use Rattle.theory_syntax.specs.Order.{unary_place, binary_place}
use Rattle.theory_syntax.specs.declared.operator.UnaryOperator.{UnaryOperator}
use Rattle.theory_syntax.specs.declared.operator.UnaryOperator.TheVariants as unary
use Rattle.theory_syntax.specs.declared.operator.BinaryOperator.{BinaryOperator}
use Rattle.theory_syntax.specs.declared.operator.BinaryOperator.TheVariants as binary
use Rattle.theory_syntax.specs.contracts.operator.UnaryOperator as unary_contract
use Rattle.theory_syntax.specs.contracts.operator.BinaryOperator as binary_contract
use Rattle.theory_syntax.specs.contracts.operator.UnaryOperatorOrd.TheImpl as unary_impl
use Rattle.theory_syntax.specs.contracts.operator.BinaryOperatorOrd.TheImpl as binary_impl
use Rattle.theory_syntax.specs.Operators.{unary_of, binary_of}

-- one of so many variants without parts
abbrev Variant : ℕ → Type 0
Variant zero = ⊥
Variant (suc n) = Unit {0} ⊎ Variant n

abbrev place : (n : ℕ) → Variant n → ℕ
place zero v = 0
place (suc n) v = ⊎_elim (λ x. 0) (λ x. suc (place n x)) v

-- the order that is derived for them
abbrev order : (n : ℕ) → Variant n → Variant n → Ordering
order zero v w = absurd v
order (suc n) v w = ⊎_elim (λ x. ⊎_elim (λ y. Equal) (λ y. Less) w) (λ x. ⊎_elim (λ y. Greater) (λ y. order n x y) w) v

-- both numbers one more
later : (m n : ℕ) (r : Ordering) → MatchOrdering r (m < n) (m ≡ n) (n < m) → MatchOrdering r (suc m < suc n) (suc m ≡ suc n) (suc n < suc m)
later m n Less h = omega arith
later m n Equal h = ap suc h
later m n Greater h = omega arith

by_place : (n : ℕ) (v w : Variant n) → order n v w ≡ nat_cmp (place n v) (place n w)
by_place zero v w = absurd v
by_place (suc n) (inl x) (inl y) = refl
by_place (suc n) (inl x) (inr y) = nat_cmp_is 0 (suc (place n y)) Less (omega arith)
by_place (suc n) (inr x) (inl y) = nat_cmp_is (suc (place n x)) 0 Greater (omega arith)
by_place (suc n) (inr x) (inr y) = by_place n x y ∙ nat_cmp_is (suc (place n x)) (suc (place n y)) (nat_cmp (place n x) (place n y)) (later (place n x) (place n y) (nat_cmp (place n x) (place n y)) (ranks (place n x) (place n y)))

unary_place_is : (a : UnaryOperator) → place 7 (unary_contract.as_values a) ≡ unary_place (unary_of a)
unary_place_is unary.Negate = refl
unary_place_is unary.Not = refl
unary_place_is unary.Length = refl
unary_place_is unary.Head = refl
unary_place_is unary.Tail = refl
unary_place_is unary.IsNull = refl
unary_place_is unary.Card = refl

pub unary_ordered : (a b : UnaryOperator) → unary_impl.ghosts.cmp a b ≡ nat_cmp (unary_place (unary_of a)) (unary_place (unary_of b))
unary_ordered a b = by_place 7 (unary_contract.as_values a) (unary_contract.as_values b) ∙ ap₂ nat_cmp (unary_place_is a) (unary_place_is b)

binary_place_is : (a : BinaryOperator) → place 18 (binary_contract.as_values a) ≡ binary_place (binary_of a)
binary_place_is binary.Add = refl
binary_place_is binary.Subtract = refl
binary_place_is binary.Multiply = refl
binary_place_is binary.Modulus = refl
binary_place_is binary.Concatenate = refl
binary_place_is binary.Equals = refl
binary_place_is binary.Differs = refl
binary_place_is binary.LessThan = refl
binary_place_is binary.AtMost = refl
binary_place_is binary.GreaterThan = refl
binary_place_is binary.AtLeast = refl
binary_place_is binary.And = refl
binary_place_is binary.Or = refl
binary_place_is binary.IsElement = refl
binary_place_is binary.IsMember = refl
binary_place_is binary.Union = refl
binary_place_is binary.Intersection = refl
binary_place_is binary.Difference = refl

pub binary_ordered : (a b : BinaryOperator) → binary_impl.ghosts.cmp a b ≡ nat_cmp (binary_place (binary_of a)) (binary_place (binary_of b))
binary_ordered a b = by_place 18 (binary_contract.as_values a) (binary_contract.as_values b) ∙ ap₂ nat_cmp (binary_place_is a) (binary_place_is b)
