-- Names of constructors and how many fields are given, and names that are an expression.
use Rattle.std.specs.Prelude.{cond, nat_eq, not, option_and_then}
use Rattle.std.proofs.lemmas.Bool.{eqb-true, eqb-false}
use Rattle.std.proofs.Common.{◌≡◌, ◌≢◌, ℕ, Bool, true, false, [], ◌∷◌, Option, Some, None, refl, sym, ap, ◌∙◌}
use Rattle.theory_syntax.specs.Expression.{Expression}
use Rattle.theory_text.specs.Raw.{RawName, RawUse}
use Rattle.theory_checking.specs.Names.{DatatypeName, ConstructorName, NametypeName, ChannelName, EquationName, Meaning, Declared, Bound, Environment, fields_of_constructor, meaning}
use Rattle.theory_checking.specs.Resolving as resolving
use Rattle.theory_checking.specs.Resolving.{as_constructor, as_expression, constructor_count, constructor_with, is_count, lacks_fields}
use Rattle.theory_checking.specs.Rules.{suits}
use Rattle.theory_checking.specs.Sites.{AsConstructor, AsExpression, Used}
use Rattle.theory_checking.specs.Walks.{IsFine, IsStoppedAt}
use Rattle.theory_checking.proofs.FineSites.{constructor_fine, expression_fine}
use Rattle.theory_checking.proofs.Meant.{constructor_counted}
use Rattle.theory_checking.proofs.SingleSites.{bare_stops, class_stops, constructor_stops}
use Rattle.csp_names.specs.declared.refusals.KindFault.TheVariants as fault
use Rattle.csp_names.specs.Names.{agree}
use Rattle.csp_names.specs.Refusals.{fault_of}

-- ---- what a meaning is

pub is_constructor : (m : Meaning) (k : ℕ) → Some k ≡ as_constructor (Some m) → m ≡ Declared ConstructorName k
is_constructor (Bound j) k e = absurd (cc e)
is_constructor (Declared DatatypeName j) k e = absurd (cc e)
is_constructor (Declared ConstructorName j) k e = let same : k ≡ j = cc e in ap (Declared ConstructorName) (sym same)
is_constructor (Declared NametypeName j) k e = absurd (cc e)
is_constructor (Declared ChannelName j) k e = absurd (cc e)
is_constructor (Declared EquationName j) k e = absurd (cc e)

no_constructor : (k : ℕ) (m : Meaning) → None ≡ as_constructor (Some m) → suits (AsConstructor k) m ≡ false
no_constructor k (Bound j) none = refl
no_constructor k (Declared DatatypeName j) none = refl
no_constructor k (Declared ConstructorName j) none = absurd (cc none)
no_constructor k (Declared NametypeName j) none = refl
no_constructor k (Declared ChannelName j) none = refl
no_constructor k (Declared EquationName j) none = refl

pub class_of_constructor : (env : Environment) (n : RawName) (m : Meaning) (k : ℕ) → meaning env n ≡ Some m → None ≡ as_constructor (Some m) →
    IsStoppedAt (Used env (AsConstructor k) n ∷ []) (fault_of fault.WrongKind) n.place
class_of_constructor env n m k is none = class_stops env (AsConstructor k) n m is (no_constructor k m none)

-- ---- a constructor with so many fields

module _ (env : Environment) (n : RawName) (k c : ℕ) (is : meaning env n ≡ Some (Declared ConstructorName c)) where
  has_count : constructor_count env n ≡ None → ⊥
  has_count none = let some = constructor_counted env n c (ap as_constructor is) in let both = sym none ∙ some.1 in cc both

  pub constructor_agrees : (count : Option ℕ) → constructor_count env n ≡ count → agree count k ≡ true → IsFine (Used env (AsConstructor k) n) × (constructor_with env n k ≡ Some c)
  constructor_agrees None counted so = absurd (has_count counted)
  constructor_agrees (Some p) counted so = (
    constructor_fine env k n (Declared ConstructorName c) is refl (counted ∙ ap Some (eqb-true p k so)),
    ap (λ o. cond (is_count k o) (as_constructor (meaning env n)) None) counted ∙ ap (λ b. cond b (as_constructor (meaning env n)) None) so ∙ ap as_constructor is,
  )

  pub constructor_disagrees : (count : Option ℕ) → constructor_count env n ≡ count → agree count k ≡ false → IsStoppedAt (Used env (AsConstructor k) n ∷ []) (fault_of fault.WrongCount) n.place
  constructor_disagrees None counted so = absurd (cc so)
  constructor_disagrees (Some p) counted so = constructor_stops env k n (Declared ConstructorName c) p is refl counted (eqb-false p k so)

-- ---- whether one that stands alone has fields

pub lacks_by_count : (count : Option ℕ) → not (agree count 0) ≡ lacks_fields count
lacks_by_count None = refl
lacks_by_count (Some p) = refl

pub lacks_none : (env : Environment) (n : RawName) (m : Meaning) → meaning env n ≡ Some m → None ≡ as_constructor (Some m) → lacks_fields (constructor_count env n) ≡ false
lacks_none env n m is none = ap (λ o. lacks_fields (option_and_then (fields_of_constructor env.declarations) o)) (ap as_constructor is ∙ sym none)

-- ---- a name that is an expression

module _ (env : Environment) (n : RawName) (m : Meaning) (is : meaning env n ≡ Some m) where
  pub no_expression : None ≡ as_expression (Some m) → IsStoppedAt (Used env AsExpression n ∷ []) (fault_of fault.WrongKind) n.place
  no_expression none = class_stops env AsExpression n m is (unsuited m none)
    where
      unsuited : (x : Meaning) → None ≡ as_expression (Some x) → suits AsExpression x ≡ false
      unsuited (Bound j) e = absurd (cc e)
      unsuited (Declared DatatypeName j) e = absurd (cc e)
      unsuited (Declared ConstructorName j) e = absurd (cc e)
      unsuited (Declared NametypeName j) e = absurd (cc e)
      unsuited (Declared ChannelName j) e = refl
      unsuited (Declared EquationName j) e = refl

  pub bare_is_refused : true ≡ lacks_fields (constructor_count env n) → IsStoppedAt (Used env AsExpression n ∷ []) (fault_of fault.WrongCount) n.place
  bare_is_refused lacks = go (constructor_count env n) refl (sym lacks)
    where
      suited : (p : ℕ) (x : Meaning) → option_and_then (fields_of_constructor env.declarations) (as_constructor (Some x)) ≡ Some p → suits AsExpression x ≡ true
      suited p (Bound j) e = refl
      suited p (Declared DatatypeName j) e = refl
      suited p (Declared ConstructorName j) e = refl
      suited p (Declared NametypeName j) e = refl
      suited p (Declared ChannelName j) e = absurd (cc e)
      suited p (Declared EquationName j) e = absurd (cc e)

      some : (p : ℕ) (b : Bool) → nat_eq p 0 ≡ b → not b ≡ true → p ≢ 0
      some p true e f = absurd (cc f)
      some p false e f = eqb-false p 0 e

      go : (o : Option ℕ) → constructor_count env n ≡ o → lacks_fields o ≡ true → IsStoppedAt (Used env AsExpression n ∷ []) (fault_of fault.WrongCount) n.place
      go None counted so = absurd (cc so)
      go (Some p) counted so =
          bare_stops env n m p is (suited p m (ap (λ o. option_and_then (fields_of_constructor env.declarations) (as_constructor o)) (sym is) ∙ counted)) counted (some p (nat_eq p 0) refl so)

  -- where it has no fields, it is what its meaning is
  pub expression_is_fine : (e : Expression) → false ≡ lacks_fields (constructor_count env n) → Some e ≡ as_expression (Some m) → IsFine (Used env AsExpression n) × (resolving.expression_of env (RawUse n) ≡ Some e)
  expression_is_fine e alone there = (
    expression_fine env n m is (suited m there) (λ p counted. none p (nat_eq p 0) refl (sym (ap lacks_fields counted) ∙ sym alone)),
    ap (λ b. cond b None (as_expression (meaning env n))) (sym alone) ∙ ap as_expression is ∙ sym there,
  )
    where
      suited : (x : Meaning) → Some e ≡ as_expression (Some x) → suits AsExpression x ≡ true
      suited (Bound j) h = refl
      suited (Declared DatatypeName j) h = refl
      suited (Declared ConstructorName j) h = refl
      suited (Declared NametypeName j) h = refl
      suited (Declared ChannelName j) h = absurd (cc h)
      suited (Declared EquationName j) h = absurd (cc h)

      none : (p : ℕ) (b : Bool) → nat_eq p 0 ≡ b → not b ≡ false → p ≡ 0
      none p true e f = eqb-true p 0 e
      none p false e f = absurd (cc f)
