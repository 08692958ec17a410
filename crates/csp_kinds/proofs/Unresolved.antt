-- An expression in which a name is refused stands for none.
use Rattle.std.specs.Prelude.{cond, not, nat_eq}
use Rattle.std.proofs.lemmas.Bool.{eqb-true}
use Rattle.std.proofs.Common.{◌≡◌, ℕ, Bool, true, false, Option, Some, None, option_map, refl, sym, ap, ◌∙◌}
use Rattle.theory_syntax.specs.Expression.{Expression, Expressions}
use Rattle.theory_text.specs.Place.{Place}
use Rattle.theory_text.specs.Raw.{RawName, RawExpression, RawNumber, RawTruth, RawBooleans, RawUse, RawApply, RawCombine, RawSequence, RawSet, RawRange, RawConstructor, RawExpressions, no_raw_expressions, raw_expression_and}
use Rattle.theory_checking.specs.Names.{DatatypeName, ConstructorName, NametypeName, ChannelName, EquationName, Meaning, Declared, Bound, Environment, meaning}
use Rattle.theory_checking.specs.Resolving.{of_two, as_expression, as_constructor, constructor_count, is_count, lacks_fields, constructor_with, number_of, expression_of, expressions_of}
use Rattle.theory_checking.specs.Sites.{AsExpression, AsConstructor, Used, in_expression, in_expressions}
use Rattle.theory_checking.specs.Faults.{KindFault}
use Rattle.theory_checking.specs.Walks.{IsFine, AllFine, IsStoppedAt}
use Rattle.theory_checking.proofs.FineSites.{constructor_fine, expression_fine}
use Rattle.theory_checking.proofs.Meant.{constructor_meant}
use Rattle.theory_checking.proofs.Walking.{fine_both, stopped_is_not_fine}

-- what stands alone, if it is a constructor, has no fields
alone : (o : Option ℕ) → lacks_fields o ≡ false → (p : ℕ) → o ≡ Some p → p ≡ 0
alone o whole p is = zero_fields p (sym (ap lacks_fields is) ∙ whole)
  where
    zero_fields : (p : ℕ) → not (nat_eq p 0) ≡ false → p ≡ 0
    zero_fields p e = go (nat_eq p 0) refl e
      where
        go : (b : Bool) → nat_eq p 0 ≡ b → not b ≡ false → p ≡ 0
        go true same f = eqb-true p 0 same
        go false same f = absurd (cc f)

meant_fine : (env : Environment) (n : RawName) (o : Option Meaning) (e : Expression) → meaning env n ≡ o → lacks_fields (constructor_count env n) ≡ false → as_expression o ≡ Some e → IsFine (Used env AsExpression n)
meant_fine env n (Some (Bound k)) e is whole same = expression_fine env n (Bound k) is refl (alone (constructor_count env n) whole)
meant_fine env n (Some (Declared ConstructorName k)) e is whole same = expression_fine env n (Declared ConstructorName k) is refl (alone (constructor_count env n) whole)
meant_fine env n (Some (Declared DatatypeName k)) e is whole same = expression_fine env n (Declared DatatypeName k) is refl (alone (constructor_count env n) whole)
meant_fine env n (Some (Declared NametypeName k)) e is whole same = expression_fine env n (Declared NametypeName k) is refl (alone (constructor_count env n) whole)
meant_fine env n (Some (Declared ChannelName k)) e is whole same = absurd (cc same)
meant_fine env n (Some (Declared EquationName k)) e is whole same = absurd (cc same)
meant_fine env n None e is whole same = absurd (cc same)

use_fine : (env : Environment) (n : RawName) (e : Expression) → cond (lacks_fields (constructor_count env n)) None (as_expression (meaning env n)) ≡ Some e → IsFine (Used env AsExpression n)
use_fine env n e is = go (lacks_fields (constructor_count env n)) refl is
  where
    go : (b : Bool) → lacks_fields (constructor_count env n) ≡ b → cond b None (as_expression (meaning env n)) ≡ Some e → IsFine (Used env AsExpression n)
    go true lacks same = absurd (cc same)
    go false whole same = meant_fine env n (meaning env n) e refl whole same

counted_so : (k : ℕ) (o : Option ℕ) → is_count k o ≡ true → o ≡ Some k
counted_so k (Some p) e = ap Some (eqb-true p k e)
counted_so k None e = absurd (cc e)

built_fine : (env : Environment) (k c : ℕ) (n : RawName) → constructor_with env n k ≡ Some c → IsFine (Used env (AsConstructor k) n)
built_fine env k c n is = go (is_count k (constructor_count env n)) refl is
  where
    go : (b : Bool) → is_count k (constructor_count env n) ≡ b → cond b (as_constructor (meaning env n)) None ≡ Some c → IsFine (Used env (AsConstructor k) n)
    go true counts same = constructor_fine env k n (Declared ConstructorName c) (constructor_meant (meaning env n) c same) refl (counted_so k (constructor_count env n) counts)
    go false counts same = absurd (cc same)

mapped : {A B : Type 0} (f : A → B) (o : Option A) (z : B) → option_map f o ≡ Some z → (x : A) × (o ≡ Some x)
mapped f (Some x) z e = (x, refl)
mapped f None z e = absurd (cc e)

parts : {A B C : Type 0} (f : A → B → C) (o : Option A) (p : Option B) (z : C) → of_two f o p ≡ Some z → (x : A) × (y : B) × (o ≡ Some x) × (p ≡ Some y)
parts f (Some x) (Some y) z e = (x, y, refl, refl)
parts f None p z e = absurd (cc e)
parts f (Some x) None z e = absurd (cc e)

module _ (env : Environment) where
  mutual
    pub resolved_fine : (r : RawExpression) (e : Expression) → expression_of env r ≡ Some e → AllFine (in_expression env r)
    resolved_fine (RawNumber n) e is = tt
    resolved_fine (RawTruth b) e is = tt
    resolved_fine RawBooleans e is = tt
    resolved_fine (RawUse n) e is = (use_fine env n e is, tt)
    resolved_fine (RawApply op r) e is = let p = mapped _ (expression_of env r) e is in resolved_fine r p.0 p.1
    resolved_fine (RawCombine op r s) e is =
        let p = parts _ (expression_of env r) (expression_of env s) e is in fine_both (in_expression env r) (in_expression env s) (resolved_fine r p.0 p.2) (resolved_fine s p.1 p.3)
    resolved_fine (RawSequence rs) e is = let p = mapped _ (expressions_of env rs) e is in all_resolved_fine rs p.0 p.1
    resolved_fine (RawSet rs) e is = let p = mapped _ (expressions_of env rs) e is in all_resolved_fine rs p.0 p.1
    resolved_fine (RawRange r s) e is =
        let p = parts _ (expression_of env r) (expression_of env s) e is in fine_both (in_expression env r) (in_expression env s) (resolved_fine r p.0 p.2) (resolved_fine s p.1 p.3)
    resolved_fine (RawConstructor n rs) e is =
        let p = parts _ (constructor_with env n (number_of rs)) (expressions_of env rs) e is in (built_fine env (number_of rs) p.0 n p.2, all_resolved_fine rs p.1 p.3)

    pub all_resolved_fine : (rs : RawExpressions) (es : Expressions) → expressions_of env rs ≡ Some es → AllFine (in_expressions env rs)
    all_resolved_fine no_raw_expressions es is = tt
    all_resolved_fine (raw_expression_and r rs) es is =
        let p = parts _ (expression_of env r) (expressions_of env rs) es is in fine_both (in_expression env r) (in_expressions env rs) (resolved_fine r p.0 p.2) (all_resolved_fine rs p.1 p.3)

  pub refused_unresolved : (r : RawExpression) (f : KindFault) (p : Place) → IsStoppedAt (in_expression env r) f p → expression_of env r ≡ None
  refused_unresolved r f p stopped = go (expression_of env r) refl
    where
      go : (o : Option Expression) → expression_of env r ≡ o → expression_of env r ≡ None
      go None is = is
      go (Some e) is = absurd (stopped_is_not_fine (in_expression env r) stopped (resolved_fine r e is))
