-- Whether what expressions use has members, one after the other.
use Rattle.std.specs.Prelude.{◌&&◌, ◌<◌, cond, drop, is_some, slice_get, unwrap_or}
use Rattle.std.specs.List.{list_all}
use Rattle.std.specs.Result.{result_ok}
use Rattle.std.proofs.lemmas.List.{drop_more}
use Rattle.std.proofs.Common.{◌≡◌, ℕ, zero, suc, ◌+◌, ◌-◌, ◌≤◌, Bool, true, false, List, [], ◌∷◌, ◌++◌, length, get_or, map, Option, None, refl, sym, ap, ap₂, ◌∙◌, arith}
use Rattle.theory_syntax.specs.Expression.{Expression, ConstructorOf, to_expressions}
use Rattle.theory_syntax.specs.Value.{to_values}
use Rattle.theory_semantics.specs.Meaning.Events.{elements}
use Rattle.theory_semantics.specs.Meaning.Limits.{expression_size, expressions_size}
use Rattle.theory_checking.specs.Sets.{constructors_in, constructors_in_all, constructors_of, constructors_of_all, datatypes_in, datatypes_in_all, has_constructors, has_members, is_there, Members, members_with, nametypes_in, nametypes_in_all, types_with}
use Rattle.csp_expression.specs.declared.expr.Expr.{Expr}
use Rattle.csp_expression.specs.Evaluation.{numbers_up, table_of}
use Rattle.csp_expression.specs.Expression.{expression_of, expressions_of}
use Rattle.csp_value.specs.declared.value.Value.{Value}
use Rattle.csp_value.specs.Value.{value_of, values_of}
use Rattle.csp_value.proofs.Measures.{one_size, sizes}
use Rattle.csp_kinds.specs.declared.table.Table.{Table}
use Rattle.csp_kinds.specs.Looking.{has_all, has_all_constructors, has_all_in, IsTableOf, is_valued}

-- ---- tests of two parts

pub all_of_both : (p : ℕ → Bool) (xs ys : List ℕ) → list_all p (xs ++ ys) ≡ list_all p xs && list_all p ys
all_of_both p [] ys = refl
all_of_both p (x ∷ xs) ys = go (p x) (all_of_both p xs ys)
  where
    go : (b : Bool) → list_all p (xs ++ ys) ≡ list_all p xs && list_all p ys → b && list_all p (xs ++ ys) ≡ (b && list_all p xs) && list_all p ys
    go true h = h
    go false h = refl

-- three tests of each of two parts
regrouped : (a b c x y z : Bool) → (a && (b && c)) && (x && (y && z)) ≡ (a && x) && ((b && y) && (c && z))
regrouped true true true x y z = refl
regrouped true true false true true z = refl
regrouped true true false true false z = refl
regrouped true true false false y z = refl
regrouped true false c true y z = refl
regrouped true false c false y z = refl
regrouped false b c x y z = refl

module _ {A : Type 0} (table : Table A) where
  three_of_both : (ns cs ds ms bs es : List ℕ) →
      (list_all (is_valued table.valued.items) ns && (list_all (is_valued table.filled.items) cs && list_all (has_all_constructors table) ds))
      && (list_all (is_valued table.valued.items) ms && (list_all (is_valued table.filled.items) bs && list_all (has_all_constructors table) es))
      ≡ list_all (is_valued table.valued.items) (ns ++ ms) && (list_all (is_valued table.filled.items) (cs ++ bs) && list_all (has_all_constructors table) (ds ++ es))
  three_of_both ns cs ds ms bs es =
      let p = list_all (is_valued table.valued.items) in
      let q = list_all (is_valued table.filled.items) in
      let r = list_all (has_all_constructors table) in
      regrouped (p ns) (q cs) (r ds) (p ms) (q bs) (r es)
      ∙ sym (ap₂ (λ a b. a && b) (all_of_both (is_valued table.valued.items) ns ms)
      (ap₂ (λ a b. a && b) (all_of_both (is_valued table.filled.items) cs bs) (all_of_both (has_all_constructors table) ds es)))

  pub has_both : (e f : Expression) → has_all table e && has_all table f
      ≡ list_all (is_valued table.valued.items)
      (nametypes_in e ++ nametypes_in f) && (list_all (is_valued table.filled.items) (constructors_in e ++ constructors_in f) && list_all
      (has_all_constructors table) (datatypes_in e ++ datatypes_in f))
  has_both e f = three_of_both (nametypes_in e) (constructors_in e) (datatypes_in e) (nametypes_in f) (constructors_in f) (datatypes_in f)

  -- ---- expressions one after the other

  abbrev pub has_each : List (Expr A) → Bool
  has_each es = has_all_in table (to_expressions (expressions_of es))

  module _ (es : List (Expr A)) (i : ℕ) (e : Expr A) (within : i < length es) (read : e ≡ get_or es i e) where
    here : has_each (drop i es) ≡ has_all table (expression_of e) && has_each (drop (i + 1) es)
    here =
        ap has_each (drop_more es i e within ∙ ap (λ x. x ∷ drop (i + 1) es) (sym read))
        ∙ sym (three_of_both (nametypes_in (expression_of e)) (constructors_in (expression_of e)) (datatypes_in (expression_of e))
        (nametypes_in_all (to_expressions (expressions_of (drop (i + 1) es)))) (constructors_in_all (to_expressions (expressions_of (drop (i + 1) es))))
        (datatypes_in_all (to_expressions (expressions_of (drop (i + 1) es)))))

    pub one_has : (b : Bool) → b ≡ true → b ≡ has_all table (expression_of e) → has_each (drop i es) ≡ has_each es → has_each (drop (i + 1) es) ≡ has_each es
    one_has b holds is so_far = sym (here ∙ ap (λ x. x && has_each (drop (i + 1) es)) (sym is ∙ holds)) ∙ so_far

    pub one_has_not : (b : Bool) → b ≡ false → b ≡ has_all table (expression_of e) → has_each (drop i es) ≡ has_each es → false ≡ has_each es
    one_has_not b fails is so_far = sym (here ∙ ap (λ x. x && has_each (drop (i + 1) es)) (sym is ∙ fails)) ∙ so_far

-- ---- values one after the other

-- each constructor of the values is said to be there
abbrev pub all_built : {A : Type 0} → List Bool → List (Value A) → Bool
all_built filled vs = list_all (is_valued filled) (constructors_of_all (to_values (values_of vs)))

module _ {A : Type 0} (filled : List Bool) (vs : List (Value A)) (i : ℕ) (v : Value A) (within : i < length vs) (read : v ≡ get_or vs i v) where
  built_here : all_built filled (drop i vs) ≡ list_all (is_valued filled) (constructors_of (value_of v)) && all_built filled (drop (i + 1) vs)
  built_here =
      ap (all_built filled) (drop_more vs i v within ∙ ap (λ x. x ∷ drop (i + 1) vs) (sym read))
      ∙ all_of_both (is_valued filled) (constructors_of (value_of v)) (constructors_of_all (to_values (values_of (drop (i + 1) vs))))

  pub one_built : (b : Bool) → b ≡ true → b ≡ list_all (is_valued filled) (constructors_of (value_of v)) → all_built filled (drop i vs) ≡ all_built filled vs →
      all_built filled (drop (i + 1) vs) ≡ all_built filled vs
  one_built b holds is so_far = sym (built_here ∙ ap (λ x. x && all_built filled (drop (i + 1) vs)) (sym is ∙ holds)) ∙ so_far

  pub one_not_built : (b : Bool) → b ≡ false → b ≡ list_all (is_valued filled) (constructors_of (value_of v)) → all_built filled (drop i vs) ≡ all_built filled vs → false ≡ all_built filled vs
  one_not_built b fails is so_far = sym (built_here ∙ ap (λ x. x && all_built filled (drop (i + 1) vs)) (sym is ∙ fails)) ∙ so_far

pub and_true : (b : Bool) → b ≡ b && true
and_true true = refl
and_true false = refl

pub and_then_true : (a b r : Bool) → r ≡ b → a ≡ true → r ≡ a && b
and_then_true a b r is holds = is ∙ ap (λ x. x && b) (sym holds)

pub and_then_false : (a b r : Bool) → r ≡ a → a ≡ false → r ≡ a && b
and_then_false a b r is fails = is ∙ fails ∙ ap (λ x. x && b) (sym fails)

and_false : (b : Bool) → false ≡ b && false
and_false true = refl
and_false false = refl

-- the other way round
pub and_before_true : (a b r : Bool) → r ≡ b → a ≡ true → r ≡ b && a
and_before_true a b r is holds = is ∙ and_true b ∙ ap (λ x. b && x) (sym holds)

pub and_before_false : (a b r : Bool) → r ≡ a → a ≡ false → r ≡ b && a
and_before_false a b r is fails = is ∙ fails ∙ and_false b ∙ ap (λ x. b && x) (sym fails)

-- a first test beside three others
with_first : (p a b c : Bool) → p && (a && (b && c)) ≡ a && ((p && b) && c)
with_first true a b c = refl
with_first false true b c = refl
with_first false false b c = refl

-- a constructor and its fields
pub has_built : {A : Type 0} (table : Table A) (k : ℕ) (es : List (Expr A)) → is_valued table.filled.items k && has_each table es ≡ has_all table (ConstructorOf k (to_expressions (expressions_of es)))
has_built table k es =
    with_first (is_valued table.filled.items k) (list_all (is_valued table.valued.items) (nametypes_in_all (to_expressions (expressions_of es))))
    (list_all (is_valued table.filled.items) (constructors_in_all (to_expressions (expressions_of es))))
    (list_all (has_all_constructors table) (datatypes_in_all (to_expressions (expressions_of es))))

-- ---- numbers one after the other

module _ (p : ℕ → Bool) (n behind : ℕ) (within : n < behind) where
  numbers_here : list_all p (numbers_up n (behind - n)) ≡ p n && list_all p (numbers_up (n + 1) (behind - (n + 1)))
  numbers_here =
      let many : behind - n ≡ suc (behind - (n + 1)) = omega (arith, within) in
      let next : suc n ≡ n + 1 = omega arith in
      ap (λ k. list_all p (numbers_up n k)) many ∙ ap (λ k. p n && list_all p (numbers_up k (behind - (n + 1)))) next

  pub one_number : (b all : Bool) → b ≡ true → b ≡ p n → list_all p (numbers_up n (behind - n)) ≡ all → list_all p (numbers_up (n + 1) (behind - (n + 1))) ≡ all
  one_number b all holds is so_far = sym (numbers_here ∙ ap (λ x. x && list_all p (numbers_up (n + 1) (behind - (n + 1)))) (sym is ∙ holds)) ∙ so_far

  pub one_not_number : (b all : Bool) → b ≡ false → b ≡ p n → list_all p (numbers_up n (behind - n)) ≡ all → false ≡ all
  one_not_number b all fails is so_far = sym (numbers_here ∙ ap (λ x. x && list_all p (numbers_up (n + 1) (behind - (n + 1)))) (sym is ∙ fails)) ∙ so_far

-- those of a row of so many
pub in_row : (p : ℕ → Bool) (first following : ℕ) → list_all p (numbers_up first ((first + following + 1) - first)) ≡ list_all p (numbers_up first (suc following))
in_row p first following = let many : (first + following + 1) - first ≡ suc following = omega arith in ap (λ k. list_all p (numbers_up first k)) many

pub all_numbers : (p : ℕ → Bool) (n behind : ℕ) (all : Bool) → behind ≤ n → list_all p (numbers_up n (behind - n)) ≡ all → true ≡ all
all_numbers p n behind all over so_far = let none : 0 ≡ behind - n = omega (arith, over) in ap (λ k. list_all p (numbers_up n k)) none ∙ so_far

-- a value is smaller than the values that it is one of
pub value_within : {A : Type 0} (vs : List (Value A)) (i : ℕ) (v : Value A) → i < length vs → v ≡ get_or vs i v → one_size v ≤ sizes vs
value_within [] i v within read = absurd (omega arith)
value_within (w ∷ ws) zero v within read = let same = ap one_size read in omega (arith, same)
value_within (w ∷ ws) (suc i) v within read = let smaller = value_within ws i v (omega (arith, within)) read in omega (arith, smaller)

-- and an expression is smaller than the expressions that it is one of
pub expression_within : {A : Type 0} (es : List (Expr A)) (i : ℕ) (e : Expr A) → i < length es → e ≡ get_or es i e →
    expression_size (expression_of e) ≤ expressions_size (to_expressions (expressions_of es))
expression_within [] i e within read = absurd (omega arith)
expression_within (x ∷ xs) zero e within read = let same = ap (λ (y : Expr _). expression_size (expression_of y)) read in omega (arith, same)
expression_within (x ∷ xs) (suc i) e within read = let smaller = expression_within xs i e (omega (arith, within)) read in omega (arith, smaller)

-- ---- the members of a set

same_tests : (p q : ℕ → Bool) → ((n : ℕ) → p n ≡ q n) → (ns : List ℕ) → list_all p ns ≡ list_all q ns
same_tests p q same [] = refl
same_tests p q same (n ∷ ns) = ap₂ (λ a b. a && b) (same n) (same_tests p q same ns)

valued_is : {X : Type 0} (os : List (Option X)) (n : ℕ) → is_valued (map is_some os) n ≡ is_there os n
valued_is [] n = refl
valued_is (o ∷ os) zero = refl
valued_is (o ∷ os) (suc n) = valued_is os n

module _ {A : Type 0} (table : Table A) (dts : List (List ℕ)) (ms : Members) (is : IsTableOf dts ms table) (e : Expression) where
  named : (n : ℕ) → is_valued table.valued.items n ≡ is_there ms.nametypes n
  named n = ap (λ v. is_valued v n) is.valued ∙ valued_is ms.nametypes n

  built : (k : ℕ) → is_valued table.filled.items k ≡ is_there ms.constructors k
  built k = ap (λ v. is_valued v k) is.filled ∙ valued_is ms.constructors k

  whole : (d : ℕ) → has_all_constructors table d ≡ has_constructors dts ms d
  whole d =
      ap (λ ds. list_all (is_valued table.filled.items) (unwrap_or (slice_get ds d) [])) (ap (λ t. t.datatypes) is.types)
      ∙ same_tests (is_valued table.filled.items) (is_there ms.constructors) built (unwrap_or (slice_get dts d) [])

  uses : has_all table e ≡ has_members dts ms e
  uses =
      ap₂ (λ a b. a && b) (same_tests (is_valued table.valued.items) (is_there ms.nametypes) named (nametypes_in e))
      (ap₂ (λ a b. a && b) (same_tests (is_valued table.filled.items) (is_there ms.constructors) built (constructors_in e))
      (same_tests (has_all_constructors table) (has_constructors dts ms) whole (datatypes_in e)))

  pub members_found : (b : Bool) → b ≡ true → b ≡ has_all table e → result_ok (elements (table_of table.types) e) ≡ members_with dts ms e
  members_found b holds tested = ap (λ t. result_ok (elements t e)) is.types ∙ ap (λ c. cond c (result_ok (elements (types_with dts ms) e)) None) (sym holds ∙ tested ∙ uses)

  pub no_members : (b : Bool) → b ≡ false → b ≡ has_all table e → None ≡ members_with dts ms e
  no_members b fails tested = ap (λ c. cond c (result_ok (elements (types_with dts ms) e)) None) (sym fails ∙ tested ∙ uses)
