-- The equations of values and expressions ask for their kinds.
use Rattle.std.proofs.Common.{◌≡◌, ℕ, suc, ◌≤◌, ◌<◌, nat_eq, Bool, true, false, cond, List, [], ◌∷◌, ◌++◌, map, slice_get, ℤ, Option, Some, None, refl, sym, ◌∙◌, ap, subst, arith}
use Rattle.std.specs.Prelude.{option_map, ⊤}
use Rattle.std.proofs.lemmas.Option.{slice_get-map}
use Rattle.theory_syntax.specs.Value.{Value, Integer, Truth, Constructor, Sequence, Set, Values, no_values, value_and, values_list, value_cmp}
use Rattle.theory_syntax.specs.Expression.{Unary, Negate, Not, Length, Head, Tail, IsNull, Card, Binary, Add, Subtract, Multiply, Modulus, Concatenate, Equals, Differs, LessThan, AtMost, GreaterThan, AtLeast, And, Or, IsElement, IsMember, Union, Intersection, Difference, Expression, Literal, Name, Apply, Combine, SequenceOf, SetOf, Range, Booleans, Datatype, Nametype, ConstructorOf, Expressions, no_expressions, expression_and}
use Rattle.theory_syntax.specs.Types.{Types}
use Rattle.theory_semantics.specs.Meaning.Offers.{RisesBy, rises}
use Rattle.theory_semantics.specs.Kinds.Kind.{Kind, IntKind, BoolKind, DatatypeKind, SequenceKind, SetKind, Kinds, Scope, kind_of_name, Each}
use Rattle.theory_semantics.specs.Kinds.Values.{IsValueOf, AreValuesOf, AreValuesInTurn}
use Rattle.theory_semantics.specs.Kinds.Expressions.{UnaryKinds, negate, negation, count, head, tail, is_null, card, BinaryKinds, add, subtract, multiply, remainder, concatenate, equals, differs, less_than, at_most, greater_than, at_least, conjunction, disjunction, is_element, is_member, unite, intersect, subtract_set, HasKind, AllHaveKind, HaveKinds, HaveFirstKinds}
use Rattle.theory_checking.specs.Inference.Chain.{Chain, IntEnd, BoolEnd, DatatypeEnd, OpenEnd, SequenceOver, SetOver, Assignment, kind_of, assign, AgreeBelow}
use Rattle.theory_semantics.proofs.Misfits.{each_got}
use Rattle.theory_semantics.proofs.RisingValues.{told_rises, rises_told}
use Rattle.theory_checking.specs.Inference.Equations.{Ask, never, when, Numbering, kinds_under, Numbered, scope_under, number_of_name, IsBelow, NamesBelow, IsChainBelow, AreOwners}
use Rattle.theory_checking.specs.Inference.Expressions.{behind_unary, operand, unary_value, behind_binary, left_operand, right_operand, binary_value, behind_value, behind_values, behind_expression, behind_expressions, of_rising, of_value, of_values, of_values_in_turn, of_expression, of_expressions, of_all, of_first}
use Rattle.theory_checking.proofs.Asking.{below_more, names_more, each_less, fixed_numbers, fixed_kinds, fixed_names, assigned, assigned_above, Fixed, Hangs, fixed_more, fixed_chain, ask_nothing, ask_equal, ask_both, ask_more, ask_same, ask_never, ask_when, ask_own}

-- ---- operators

unary_rises : (op : Unary) (n : ℕ) → n ≤ behind_unary op n
unary_rises Negate n = omega arith
unary_rises Not n = omega arith
unary_rises _ n = omega arith

operand_below : (op : Unary) (n : ℕ) → IsChainBelow (behind_unary op n) (operand op n)
operand_below Negate n = tt
operand_below Not n = tt
operand_below _ n = omega arith

unary_value_below : (op : Unary) (n : ℕ) → IsChainBelow (behind_unary op n) (unary_value op n)
unary_value_below Head n = omega arith
unary_value_below Tail n = omega arith
unary_value_below _ n = tt

unary_gives : (op : Unary) (n : ℕ) (a : Assignment) → UnaryKinds op (kind_of a (operand op n)) (kind_of a (unary_value op n))
unary_gives Negate n a = negate
unary_gives Not n a = negation
unary_gives Length n a = count
unary_gives Head n a = head
unary_gives Tail n a = tail
unary_gives IsNull n a = is_null
unary_gives Card n a = card

unary_takes : (op : Unary) (m j : Kind) (n : ℕ) (a : Assignment) → UnaryKinds op m j → (b : Assignment) × AgreeBelow n a b × (kind_of b (operand op n) ≡ m) × (kind_of b (unary_value op n) ≡ j)
unary_takes op m j n a negate = (a, λ k small. refl, refl, refl)
unary_takes op m j n a negation = (a, λ k small. refl, refl, refl)
unary_takes op m j n a (count {k}) = (assign n k a, assigned_above n k a, ap SequenceKind (assigned n k a), refl)
unary_takes op m j n a (head {k}) = (assign n k a, assigned_above n k a, ap SequenceKind (assigned n k a), assigned n k a)
unary_takes op m j n a (tail {k}) = (assign n k a, assigned_above n k a, ap SequenceKind (assigned n k a), ap SequenceKind (assigned n k a))
unary_takes op m j n a (is_null {k}) = (assign n k a, assigned_above n k a, ap SequenceKind (assigned n k a), refl)
unary_takes op m j n a (card {k}) = (assign n k a, assigned_above n k a, ap SetKind (assigned n k a), refl)

binary_rises : (op : Binary) (n : ℕ) → n ≤ behind_binary op n
binary_rises Add n = omega arith
binary_rises _ n = omega arith

left_below : (op : Binary) (n : ℕ) → IsChainBelow (behind_binary op n) (left_operand op n)
left_below Concatenate n = omega arith
left_below Equals n = omega arith
left_below Differs n = omega arith
left_below IsElement n = omega arith
left_below IsMember n = omega arith
left_below Union n = omega arith
left_below Intersection n = omega arith
left_below Difference n = omega arith
left_below _ n = tt

right_below : (op : Binary) (n : ℕ) → IsChainBelow (behind_binary op n) (right_operand op n)
right_below Concatenate n = omega arith
right_below Equals n = omega arith
right_below Differs n = omega arith
right_below IsElement n = omega arith
right_below IsMember n = omega arith
right_below Union n = omega arith
right_below Intersection n = omega arith
right_below Difference n = omega arith
right_below _ n = tt

binary_value_below : (op : Binary) (n : ℕ) → IsChainBelow (behind_binary op n) (binary_value op n)
binary_value_below Concatenate n = omega arith
binary_value_below Union n = omega arith
binary_value_below Intersection n = omega arith
binary_value_below Difference n = omega arith
binary_value_below _ n = tt

binary_gives : (op : Binary) (n : ℕ) (a : Assignment) → BinaryKinds op (kind_of a (left_operand op n)) (kind_of a (right_operand op n)) (kind_of a (binary_value op n))
binary_gives Add n a = add
binary_gives Subtract n a = subtract
binary_gives Multiply n a = multiply
binary_gives Modulus n a = remainder
binary_gives Concatenate n a = concatenate
binary_gives Equals n a = equals
binary_gives Differs n a = differs
binary_gives LessThan n a = less_than
binary_gives AtMost n a = at_most
binary_gives GreaterThan n a = greater_than
binary_gives AtLeast n a = at_least
binary_gives And n a = conjunction
binary_gives Or n a = disjunction
binary_gives IsElement n a = is_element
binary_gives IsMember n a = is_member
binary_gives Union n a = unite
binary_gives Intersection n a = intersect
binary_gives Difference n a = subtract_set

-- an assignment with the operands' kinds and the value's
abbrev Taken : ℕ → Assignment → Binary → Kind → Kind → Kind → Type 0
Taken n a op m i j = (b : Assignment) × AgreeBelow n a b × (kind_of b (left_operand op n) ≡ m) × (kind_of b (right_operand op n) ≡ i) × (kind_of b (binary_value op n) ≡ j)

binary_takes : (op : Binary) (m i j : Kind) (n : ℕ) (a : Assignment) → BinaryKinds op m i j → Taken n a op m i j
binary_takes op m i j n a add = (a, λ k small. refl, refl, refl, refl)
binary_takes op m i j n a subtract = (a, λ k small. refl, refl, refl, refl)
binary_takes op m i j n a multiply = (a, λ k small. refl, refl, refl, refl)
binary_takes op m i j n a remainder = (a, λ k small. refl, refl, refl, refl)
binary_takes op m i j n a (concatenate {k}) = let e = assigned n k a in (assign n k a, assigned_above n k a, ap SequenceKind e, ap SequenceKind e, ap SequenceKind e)
binary_takes op m i j n a (equals {k}) = let e = assigned n k a in (assign n k a, assigned_above n k a, e, e, refl)
binary_takes op m i j n a (differs {k}) = let e = assigned n k a in (assign n k a, assigned_above n k a, e, e, refl)
binary_takes op m i j n a less_than = (a, λ k small. refl, refl, refl, refl)
binary_takes op m i j n a at_most = (a, λ k small. refl, refl, refl, refl)
binary_takes op m i j n a greater_than = (a, λ k small. refl, refl, refl, refl)
binary_takes op m i j n a at_least = (a, λ k small. refl, refl, refl, refl)
binary_takes op m i j n a conjunction = (a, λ k small. refl, refl, refl, refl)
binary_takes op m i j n a disjunction = (a, λ k small. refl, refl, refl, refl)
binary_takes op m i j n a (is_element {k}) = let e = assigned n k a in (assign n k a, assigned_above n k a, e, ap SequenceKind e, refl)
binary_takes op m i j n a (is_member {k}) = let e = assigned n k a in (assign n k a, assigned_above n k a, e, ap SetKind e, refl)
binary_takes op m i j n a (unite {k}) = let e = assigned n k a in (assign n k a, assigned_above n k a, ap SetKind e, ap SetKind e, ap SetKind e)
binary_takes op m i j n a (intersect {k}) = let e = assigned n k a in (assign n k a, assigned_above n k a, ap SetKind e, ap SetKind e, ap SetKind e)
binary_takes op m i j n a (subtract_set {k}) = let e = assigned n k a in (assign n k a, assigned_above n k a, ap SetKind e, ap SetKind e, ap SetKind e)

-- ---- names

pub name_kind : (a : Assignment) (names : Numbered) (x : ℕ) → kind_of_name (scope_under a names) x ≡ option_map a (number_of_name names x)
name_kind a [] x = refl
name_kind a (b ∷ names) x = by_test (nat_eq b.0 x) (name_kind a names x)
  where
    by_test : (t : Bool) → kind_of_name (scope_under a names) x ≡ option_map a (number_of_name names x) →
        cond t (Some (a b.1)) (kind_of_name (scope_under a names) x) ≡ option_map a (cond t (Some b.1) (number_of_name names x))
    by_test true e = refl
    by_test false e = e

pub number_below : (P : ℕ → Type 0) (names : Numbered) (x m : ℕ) → Each (λ b. P b.1) names → number_of_name names x ≡ Some m → P m
number_below P [] x m h e = absurd (cc e)
number_below P (b ∷ names) x m h e = by_test (nat_eq b.0 x) (number_below P names x m h.1) e
  where
    by_test : (t : Bool) → (number_of_name names x ≡ Some m → P m) → cond t (Some b.1) (number_of_name names x) ≡ Some m → P m
    by_test true rest f = let same : b.1 ≡ m = cc f in subst P same h.0
    by_test false rest f = rest f

pub some_mapped : {A B : Type 0} (f : A → B) (o : Option A) (y : B) → option_map f o ≡ Some y → (x : A) × (o ≡ Some x) × (f x ≡ y)
some_mapped f None y e = absurd (cc e)
some_mapped f (Some x) y e = (x, refl, cc e)

-- ---- numbers rise

mutual
  value_rises : (n : ℕ) (v : Value) → n ≤ behind_value n v
  value_rises n (Integer z) = omega arith
  value_rises n (Truth b) = omega arith
  value_rises n (Constructor c vs) = values_rise n vs
  value_rises n (Sequence vs) = let rest : suc n ≤ behind_values (suc n) vs = values_rise (suc n) vs in omega (arith, rest)
  value_rises n (Set vs) = let rest : suc n ≤ behind_values (suc n) vs = values_rise (suc n) vs in omega (arith, rest)

  values_rise : (n : ℕ) (vs : Values) → n ≤ behind_values n vs
  values_rise n no_values = omega arith
  values_rise n (value_and v vs) =
      let first : n ≤ behind_value n v = value_rises n v in
      let rest : behind_value n v ≤ behind_values (behind_value n v) vs = values_rise (behind_value n v) vs in omega (arith, first, rest)

mutual
  expression_rises : (n : ℕ) (e : Expression) → n ≤ behind_expression n e
  expression_rises n (Literal v) = value_rises n v
  expression_rises n (Name x) = omega arith
  expression_rises n (Apply op e) =
      let first : n ≤ behind_unary op n = unary_rises op n in
      let rest : behind_unary op n ≤ behind_expression (behind_unary op n) e = expression_rises (behind_unary op n) e in omega (arith, first, rest)
  expression_rises n (Combine op e f) =
      let first : n ≤ behind_binary op n = binary_rises op n in
      let second : behind_binary op n ≤ behind_expression (behind_binary op n) e = expression_rises (behind_binary op n) e in
      let third : behind_expression (behind_binary op n) e ≤ behind_expression (behind_expression (behind_binary op n) e) f = expression_rises (behind_expression (behind_binary op n) e) f in
      omega (arith, first, second, third)
  expression_rises n (SequenceOf es) = let rest : suc n ≤ behind_expressions (suc n) es = expressions_rise (suc n) es in omega (arith, rest)
  expression_rises n (SetOf es) = let rest : suc n ≤ behind_expressions (suc n) es = expressions_rise (suc n) es in omega (arith, rest)
  expression_rises n (Range e f) =
      let first : n ≤ behind_expression n e = expression_rises n e in
      let rest : behind_expression n e ≤ behind_expression (behind_expression n e) f = expression_rises (behind_expression n e) f in omega (arith, first, rest)
  expression_rises n Booleans = omega arith
  expression_rises n (Datatype d) = omega arith
  expression_rises n (Nametype x) = omega arith
  expression_rises n (ConstructorOf c es) = expressions_rise n es

  expressions_rise : (n : ℕ) (es : Expressions) → n ≤ behind_expressions n es
  expressions_rise n no_expressions = omega arith
  expressions_rise n (expression_and e es) =
      let first : n ≤ behind_expression n e = expression_rises n e in
      let rest : behind_expression n e ≤ behind_expressions (behind_expression n e) es = expressions_rise (behind_expression n e) es in omega (arith, first, rest)

module _ (types : Types) (o : Numbering) (owners : AreOwners types o) where
  -- ---- values

  integer_only : (kinds : Kinds) (z : ℤ) (k : Kind) → IsValueOf types kinds (Integer z) k → IntKind ≡ k
  integer_only kinds z IntKind h = refl
  integer_only kinds z _ h = absurd h

  truth_only : (kinds : Kinds) (t : Bool) (k : Kind) → IsValueOf types kinds (Truth t) k → BoolKind ≡ k
  truth_only kinds t BoolKind h = refl
  truth_only kinds t _ h = absurd h

  -- the fields of a constructor have the kinds of its fields in turn
  abbrev FieldsFit : ℕ → Values → Kinds → Type 0
  FieldsFit c vs kinds = (ks : List Kind) × (slice_get kinds.constructors c ≡ Some ks) × AreValuesInTurn types kinds vs ks

  constructor_only : (kinds : Kinds) (c : ℕ) (vs : Values) (k : Kind) → IsValueOf types kinds (Constructor c vs) k → (d : ℕ) × (DatatypeKind d ≡ k) × (slice_get o.owners c ≡ Some d) × FieldsFit c vs kinds
  constructor_only kinds c vs (DatatypeKind d) h = (d, refl, (owners d c).0 h.0, h.1)
  constructor_only kinds c vs _ h = absurd h

  sequence_only : (kinds : Kinds) (vs : Values) (k : Kind) → IsValueOf types kinds (Sequence vs) k → (j : Kind) × (SequenceKind j ≡ k) × AreValuesOf types kinds vs j
  sequence_only kinds vs (SequenceKind j) h = (j, refl, h)
  sequence_only kinds vs _ h = absurd h

  set_only : (kinds : Kinds) (vs : Values) (k : Kind) → IsValueOf types kinds (Set vs) k → (j : Kind) × (SetKind j ≡ k) × (AreValuesOf types kinds vs j × RisesBy value_cmp (values_list vs))
  set_only kinds vs (SetKind j) h = (j, refl, h)
  set_only kinds vs _ h = absurd h

  own_fixed : (n : ℕ) → Fixed (suc n) (λ a. kind_of a (OpenEnd n))
  own_fixed n a b agree = agree n (omega arith)

  -- what hangs on the kinds alone, and on them and more
  kinds_hang : (n : ℕ) (P : Kinds → Type 0) → IsBelow n o → Hangs n (λ a. P (kinds_under a o))
  kinds_hang n P below a b agree h = subst P (sym (fixed_kinds n o below a b agree)) h

  both_hang : {X : Type 0} (n : ℕ) (P : Kinds → X → Type 0) (x : Assignment → X) → IsBelow n o → Fixed n x → Hangs n (λ a. P (kinds_under a o) (x a))
  both_hang n P x below fixed a b agree h = subst (P (kinds_under b o)) (sym (fixed a b agree)) (subst (λ K. P K (x a)) (sym (fixed_kinds n o below a b agree)) h)

  -- the equations of the fields of a constructor
  fields_ask : (n : ℕ) (c : ℕ) (vs : Values) → IsBelow n o → n ≤ behind_values n vs →
      ((ms : List ℕ) → Each (λ m. m < n) ms → Ask n (of_values_in_turn o n vs ms) (behind_values n vs) (λ a. AreValuesInTurn types (kinds_under a o) vs (map a ms))) → Ask n (when (slice_get o.constructors c) (of_values_in_turn o n vs)) (behind_values n vs) (λ a. FieldsFit c vs (kinds_under a o))
  fields_ask n c vs below rising turn =
      let p = behind_values n vs in
      ask_when n p (slice_get o.constructors c) (of_values_in_turn o n vs) (λ a. FieldsFit c vs (kinds_under a o)) rising
      (λ ms is. ask_same n p (of_values_in_turn o n vs ms) (λ a. AreValuesInTurn types (kinds_under a o) vs (map a ms)) (λ a. FieldsFit c vs (kinds_under a o))
      (turn ms (each_got (Each (λ m. m < n)) o.constructors c ms below.constructors is))
      (λ a h. (map a ms, slice_get-map (map a) o.constructors c ∙ ap (option_map (map a)) is, h))
      (λ a h.
      let e : Some (map a ms) ≡ Some h.0 = sym (ap (option_map (map a)) is) ∙ sym (slice_get-map (map a) o.constructors c) ∙ h.1 in
      let same : map a ms ≡ h.0 = cc e in subst (AreValuesInTurn types (kinds_under a o) vs) (sym same) h.2))
      (λ none a h. let e : None ≡ Some h.0 = sym (ap (option_map (map a)) none) ∙ sym (slice_get-map (map a) o.constructors c) ∙ h.1 in cc e)

  -- what is asked of the members of a set for their order
  rising_asks : (p : ℕ) (vs : Values) → Ask p (of_rising vs) p (λ a. RisesBy value_cmp (values_list vs))
  rising_asks p vs = by (rises (values_list vs)) refl
    where
      by : (b : Bool) → rises (values_list vs) ≡ b → Ask p (cond b [] never) p (λ a. RisesBy value_cmp (values_list vs))
      by true is = ask_same p p [] (λ a. ⊤) (λ a. RisesBy value_cmp (values_list vs)) (ask_nothing p) (λ a h. told_rises (values_list vs) is) (λ a h. tt)
      by false is = ask_never p p _ (omega arith) (λ a h. let e = sym is ∙ rises_told (values_list vs) h in absurd (cc e))

  mutual
    pub value_asks : (n : ℕ) (v : Value) (k : Chain) → IsBelow n o → Fixed n (λ a. kind_of a k) → Ask n (of_value o n v k) (behind_value n v) (λ a. IsValueOf types (kinds_under a o) v (kind_of a k))
    value_asks n (Integer z) k below fixed =
        ask_same n n ((IntEnd, k) ∷ []) (λ a. IntKind ≡ kind_of a k) (λ a. IsValueOf types (kinds_under a o) (Integer z) (kind_of a k))
        (ask_equal n IntEnd k (λ a b agree. refl) fixed) (λ a e. subst (IsValueOf types (kinds_under a o) (Integer z)) e tt) (λ a h. integer_only (kinds_under a o) z (kind_of a k) h)
    value_asks n (Truth t) k below fixed =
        ask_same n n ((BoolEnd, k) ∷ []) (λ a. BoolKind ≡ kind_of a k) (λ a. IsValueOf types (kinds_under a o) (Truth t) (kind_of a k))
        (ask_equal n BoolEnd k (λ a b agree. refl) fixed) (λ a e. subst (IsValueOf types (kinds_under a o) (Truth t)) e tt) (λ a h. truth_only (kinds_under a o) t (kind_of a k) h)
    value_asks n (Constructor c vs) k below fixed =
        let p = behind_values n vs in
        let rising : n ≤ p = values_rise n vs in
        let fields = when (slice_get o.constructors c) (of_values_in_turn o n vs) in
        let Whole : Assignment → Type 0 = λ a. IsValueOf types (kinds_under a o) (Constructor c vs) (kind_of a k) in
        ask_when n p (slice_get o.owners c) (λ d. (DatatypeEnd d, k) ∷ fields) Whole rising
        (λ d is. ask_same n p ((DatatypeEnd d, k) ∷ fields) (λ a. (DatatypeKind d ≡ kind_of a k) × FieldsFit c vs (kinds_under a o)) Whole
        (ask_both n n p ((DatatypeEnd d, k) ∷ []) fields (λ a. DatatypeKind d ≡ kind_of a k) (λ a. FieldsFit c vs (kinds_under a o)) (ask_equal n (DatatypeEnd d) k (λ a b agree. refl) fixed)
        (fields_ask n c vs below rising (λ ms small. turn_asks n vs ms below small)) (kinds_hang n (FieldsFit c vs) below))
        (λ a x. subst (IsValueOf types (kinds_under a o) (Constructor c vs)) x.0 ((owners d c).1 is, x.1))
        (λ a h. let x = constructor_only (kinds_under a o) c vs (kind_of a k) h in let same : x.0 ≡ d = cc (sym x.2 ∙ is) in (ap DatatypeKind (sym same) ∙ x.1, x.3)))
        (λ none a h. let x = constructor_only (kinds_under a o) c vs (kind_of a k) h in let e = sym none ∙ x.2 in cc e)
    value_asks n (Sequence vs) k below fixed =
        ask_own n (behind_values (suc n) vs) k (SequenceOver (OpenEnd n)) SequenceKind (of_values o (suc n) vs (OpenEnd n)) (λ a j. AreValuesOf types (kinds_under a o) vs j)
        (λ a j. IsValueOf types (kinds_under a o) (Sequence vs) j) (λ a. refl) fixed
        (values_asks (suc n) vs (OpenEnd n) (below_more n (suc n) o (omega arith) below) (own_fixed n)) (λ a b j agree h. kinds_hang n (λ K. AreValuesOf types K vs j) below a b agree h)
        (λ a j h. h) (λ a i h. sequence_only (kinds_under a o) vs i h)
    value_asks n (Set vs) k below fixed =
        let p = behind_values (suc n) vs in
        let more = below_more n (suc n) o (omega arith) below in
        ask_own n p k (SetOver (OpenEnd n)) SetKind (of_values o (suc n) vs (OpenEnd n) ++ of_rising vs) (λ a j. AreValuesOf types (kinds_under a o) vs j × RisesBy value_cmp (values_list vs))
        (λ a j. IsValueOf types (kinds_under a o) (Set vs) j) (λ a. refl) fixed
        (ask_both (suc n) p p (of_values o (suc n) vs (OpenEnd n)) (of_rising vs) (λ a. AreValuesOf types (kinds_under a o) vs (a n)) (λ a. RisesBy value_cmp (values_list vs))
        (values_asks (suc n) vs (OpenEnd n) more (own_fixed n)) (rising_asks p vs) (λ a b agree h. h))
        (λ a b j agree h. (kinds_hang n (λ K. AreValuesOf types K vs j) below a b agree h.0, h.1)) (λ a j h. h) (λ a i h. set_only (kinds_under a o) vs i h)

    pub values_asks : (n : ℕ) (vs : Values) (k : Chain) → IsBelow n o → Fixed n (λ a. kind_of a k) →
        Ask n (of_values o n vs k) (behind_values n vs) (λ a. AreValuesOf types (kinds_under a o) vs (kind_of a k))
    values_asks n no_values k below fixed = ask_nothing n
    values_asks n (value_and v vs) k below fixed =
        let first = value_asks n v k below fixed in
        ask_both n (behind_value n v) (behind_values (behind_value n v) vs) (of_value o n v k) (of_values o (behind_value n v) vs k)
        (λ a. IsValueOf types (kinds_under a o) v (kind_of a k)) (λ a. AreValuesOf types (kinds_under a o) vs (kind_of a k)) first
        (values_asks (behind_value n v) vs k (below_more n (behind_value n v) o first.rising below) (fixed_more n (behind_value n v) (λ a. kind_of a k) first.rising fixed))
        (both_hang n (λ K j. AreValuesOf types K vs j) (λ a. kind_of a k) below fixed)

    -- fields in turn, with the numbers of their kinds
    turn_asks : (n : ℕ) (vs : Values) (ms : List ℕ) → IsBelow n o → Each (λ m. m < n) ms →
        Ask n (of_values_in_turn o n vs ms) (behind_values n vs) (λ a. AreValuesInTurn types (kinds_under a o) vs (map a ms))
    turn_asks n no_values [] below small = ask_nothing n
    turn_asks n no_values (m ∷ ms) below small = ask_never n n _ (omega arith) (λ a h. h)
    turn_asks n (value_and v vs) [] below small = ask_never n (behind_values n (value_and v vs)) _ (values_rise n (value_and v vs)) (λ a h. h)
    turn_asks n (value_and v vs) (m ∷ ms) below small =
        let p = behind_value n v in
        let first = value_asks n v (OpenEnd m) below (λ a b agree. agree m small.0) in
        ask_both n p (behind_values p vs) (of_value o n v (OpenEnd m)) (of_values_in_turn o p vs ms) (λ a. IsValueOf types (kinds_under a o) v (a m))
        (λ a. AreValuesInTurn types (kinds_under a o) vs (map a ms)) first
        (turn_asks p vs ms (below_more n p o first.rising below) (each_less n p ms first.rising small.1))
        (both_hang n (λ K ks. AreValuesInTurn types K vs ks) (λ a. map a ms) below (fixed_numbers n ms small.1))

  -- ---- expressions

  range_only : (kinds : Kinds) (scope : Scope) (e f : Expression) (k : Kind) → HasKind types kinds scope (Range e f) k →
      (SetKind IntKind ≡ k) × (HasKind types kinds scope e IntKind × HasKind types kinds scope f IntKind)
  range_only kinds scope e f (SetKind IntKind) h = (refl, h)
  range_only kinds scope e f _ h = absurd h

  booleans_only : (kinds : Kinds) (scope : Scope) (k : Kind) → HasKind types kinds scope Booleans k → SetKind BoolKind ≡ k
  booleans_only kinds scope (SetKind BoolKind) h = refl
  booleans_only kinds scope _ h = absurd h

  datatype_only : (kinds : Kinds) (scope : Scope) (d : ℕ) (k : Kind) → HasKind types kinds scope (Datatype d) k →
      (SetKind (DatatypeKind d) ≡ k) × ((cs : List ℕ) × (slice_get types.datatypes d ≡ Some cs))
  datatype_only kinds scope d (SetKind (DatatypeKind c)) h = (ap (λ x. SetKind (DatatypeKind x)) h.0, h.1)
  datatype_only kinds scope d _ h = absurd h

  nametype_only : (kinds : Kinds) (scope : Scope) (x : ℕ) (k : Kind) → HasKind types kinds scope (Nametype x) k → (j : Kind) × (SetKind j ≡ k) × (slice_get kinds.nametypes x ≡ Some j)
  nametype_only kinds scope x (SetKind j) h = (j, refl, h)
  nametype_only kinds scope x _ h = absurd h

  -- the fields that are written have the kinds of the constructor's fields in turn
  abbrev GivenFit : ℕ → Expressions → Kinds → Scope → Type 0
  GivenFit c es kinds scope = (ks : List Kind) × (slice_get kinds.constructors c ≡ Some ks) × HaveKinds types kinds scope es ks

  written_only : (kinds : Kinds) (scope : Scope) (c : ℕ) (es : Expressions) (k : Kind) → HasKind types kinds scope (ConstructorOf c es) k →
      (d : ℕ) × (DatatypeKind d ≡ k) × (slice_get o.owners c ≡ Some d) × GivenFit c es kinds scope
  written_only kinds scope c es (DatatypeKind d) h = (d, refl, (owners d c).0 h.0, h.1)
  written_only kinds scope c es _ h = absurd h

  all_sequence_only : (kinds : Kinds) (scope : Scope) (es : Expressions) (k : Kind) → HasKind types kinds scope (SequenceOf es) k →
      (j : Kind) × (SequenceKind j ≡ k) × AllHaveKind types kinds scope es j
  all_sequence_only kinds scope es (SequenceKind j) h = (j, refl, h)
  all_sequence_only kinds scope es _ h = absurd h

  all_set_only : (kinds : Kinds) (scope : Scope) (es : Expressions) (k : Kind) → HasKind types kinds scope (SetOf es) k → (j : Kind) × (SetKind j ≡ k) × AllHaveKind types kinds scope es j
  all_set_only kinds scope es (SetKind j) h = (j, refl, h)
  all_set_only kinds scope es _ h = absurd h

  -- all numbers in use are below n
  abbrev pub InUse : ℕ → Numbered → Type 0
  InUse n names = IsBelow n o × NamesBelow n names

  pub in_use_more : (n m : ℕ) (names : Numbered) → n ≤ m → InUse n names → InUse m names
  in_use_more n m names le g = (below_more n m o le g.0, names_more n m names le g.1)

  -- what hangs on the numbers in use alone
  pub hangs : {X : Type 0} (n : ℕ) (names : Numbered) (P : Kinds → Scope → X → Type 0) (x : Assignment → X) → InUse n names → Fixed n x → Hangs n (λ a. P (kinds_under a o) (scope_under a names) (x a))
  hangs n names P x g fixed a b agree h =
      subst (λ z. P (kinds_under b o) (scope_under b names) z) (sym (fixed a b agree)) (subst (λ z. P (kinds_under b o) z (x a)) (sym (fixed_names n names g.1 a b agree))
      (subst (λ z. P z (scope_under a names) (x a)) (sym (fixed_kinds n o g.0 a b agree)) h))

  module _ (names : Numbered) where
    -- the expression has the chain's kind
    abbrev pub Kinded : Expression → Chain → Assignment → Type 0
    Kinded e k a = HasKind types (kinds_under a o) (scope_under a names) e (kind_of a k)

    abbrev pub AllKinded : Expressions → Chain → Assignment → Type 0
    AllKinded es k a = AllHaveKind types (kinds_under a o) (scope_under a names) es (kind_of a k)

    pub kinded_hangs : (n : ℕ) (e : Expression) (k : Chain) → InUse n names → Fixed n (λ a. kind_of a k) → Hangs n (Kinded e k)
    kinded_hangs n e k g fixed = hangs n names (λ K S j. HasKind types K S e j) (λ a. kind_of a k) g fixed

    -- the same kind under another assignment
    moved : (n : ℕ) (e : Expression) (j : Kind) → InUse n names → (a b : Assignment) → AgreeBelow n a b →
        HasKind types (kinds_under a o) (scope_under a names) e j → HasKind types (kinds_under b o) (scope_under b names) e j
    moved n e j g a b agree h = hangs n names (λ K S i. HasKind types K S e i) (λ c. j) g (λ c d f. refl) a b agree h

    number_fixed : (n m : ℕ) → m < n → Fixed n (λ a. a m)
    number_fixed n m small a b agree = agree m small

    -- the equations of the fields that are written for a constructor
    given_ask : (n : ℕ) (c : ℕ) (es : Expressions) → InUse n names → n ≤ behind_expressions n es →
        ((ms : List ℕ) → Each (λ m. m < n) ms → Ask n (of_all types o n names es ms) (behind_expressions n es) (λ a. HaveKinds types (kinds_under a o) (scope_under a names) es (map a ms))) →
        Ask n (when (slice_get o.constructors c) (of_all types o n names es)) (behind_expressions n es) (λ a. GivenFit c es (kinds_under a o) (scope_under a names))
    given_ask n c es g rising turn =
        let p = behind_expressions n es in
        ask_when n p (slice_get o.constructors c) (of_all types o n names es) (λ a. GivenFit c es (kinds_under a o) (scope_under a names)) rising
        (λ ms is. ask_same n p (of_all types o n names es ms) (λ a. HaveKinds types (kinds_under a o) (scope_under a names) es (map a ms)) (λ a. GivenFit c es (kinds_under a o) (scope_under a names))
        (turn ms (each_got (Each (λ m. m < n)) o.constructors c ms g.0.constructors is))
        (λ a h. (map a ms, slice_get-map (map a) o.constructors c ∙ ap (option_map (map a)) is, h))
        (λ a h.
        let e : Some (map a ms) ≡ Some h.0 = sym (ap (option_map (map a)) is) ∙ sym (slice_get-map (map a) o.constructors c) ∙ h.1 in
        let same : map a ms ≡ h.0 = cc e in subst (HaveKinds types (kinds_under a o) (scope_under a names) es) (sym same) h.2))
        (λ none a h. let e : None ≡ Some h.0 = sym (ap (option_map (map a)) none) ∙ sym (slice_get-map (map a) o.constructors c) ∙ h.1 in cc e)

    mutual
      pub expression_asks : (n : ℕ) (e : Expression) (k : Chain) → InUse n names → Fixed n (λ a. kind_of a k) → Ask n (of_expression types o n names e k) (behind_expression n e) (Kinded e k)
      expression_asks n (Literal v) k g fixed = value_asks n v k g.0 fixed
      expression_asks n (Name x) k g fixed = ask_when n n (number_of_name names x) (λ m. (OpenEnd m, k) ∷ []) (Kinded (Name x) k) (omega arith)
          (λ m is. ask_same n n ((OpenEnd m, k) ∷ []) (λ a. a m ≡ kind_of a k) (Kinded (Name x) k) (ask_equal n (OpenEnd m) k (λ a b agree. agree m (number_below (λ i. i < n) names x m g.1 is)) fixed)
          (λ a e. name_kind a names x ∙ ap (option_map a) is ∙ ap Some e)
          (λ a h. let e : Some (a m) ≡ Some (kind_of a k) = sym (ap (option_map a) is) ∙ sym (name_kind a names x) ∙ h in cc e))
          (λ none a h. let e : None ≡ Some (kind_of a k) = sym (ap (option_map a) none) ∙ sym (name_kind a names x) ∙ h in cc e)
      expression_asks n (Apply op e) k g fixed =
          let m = behind_unary op n in
          let le : n ≤ m = unary_rises op n in
          let v = unary_value op n in
          let w = operand op n in
          let fixed_w = fixed_chain m w (operand_below op n) in
          let more = in_use_more n m names le g in
          ask_more n m (behind_expression m e) (of_expression types o n names (Apply op e) k) (λ a. (kind_of a v ≡ kind_of a k) × Kinded e w a) (Kinded (Apply op e) k) le
          (ask_both m m (behind_expression m e) ((v, k) ∷ []) (of_expression types o m names e w) (λ a. kind_of a v ≡ kind_of a k) (Kinded e w)
          (ask_equal m v k (fixed_chain m v (unary_value_below op n)) (fixed_more n m (λ a. kind_of a k) le fixed)) (expression_asks m e w more fixed_w) (kinded_hangs m e w more fixed_w))
          (λ a x. (kind_of a w, subst (UnaryKinds op (kind_of a w)) x.0 (unary_gives op n a), x.1))
          (λ a x.
          let y = unary_takes op x.0 (kind_of a k) n a x.1 in
          (y.0, y.1, (y.3 ∙ sym (fixed a y.0 y.1), subst (HasKind types (kinds_under y.0 o) (scope_under y.0 names) e) (sym y.2) (moved n e x.0 g a y.0 y.1 x.2))))
      expression_asks n (Combine op e f) k g fixed =
          let m = behind_binary op n in
          let p = behind_expression m e in
          let q = behind_expression p f in
          let le : n ≤ m = binary_rises op n in
          let v = binary_value op n in
          let c = left_operand op n in
          let d = right_operand op n in
          let fixed_c = fixed_chain m c (left_below op n) in
          let fixed_d = fixed_chain m d (right_below op n) in
          let more = in_use_more n m names le g in
          let first = expression_asks m e c more fixed_c in
          ask_more n m q (of_expression types o n names (Combine op e f) k) (λ a. (kind_of a v ≡ kind_of a k) × (Kinded e c a × Kinded f d a)) (Kinded (Combine op e f) k) le
          (ask_both m m q ((v, k) ∷ []) (of_expression types o m names e c ++ of_expression types o p names f d) (λ a. kind_of a v ≡ kind_of a k) (λ a. Kinded e c a × Kinded f d a)
          (ask_equal m v k (fixed_chain m v (binary_value_below op n)) (fixed_more n m (λ a. kind_of a k) le fixed))
          (ask_both m p q (of_expression types o m names e c) (of_expression types o p names f d) (Kinded e c) (Kinded f d) first
          (expression_asks p f d (in_use_more m p names first.rising more) (fixed_more m p (λ a. kind_of a d) first.rising fixed_d)) (kinded_hangs m f d more fixed_d))
          (λ a b agree h. (kinded_hangs m e c more fixed_c a b agree h.0, kinded_hangs m f d more fixed_d a b agree h.1)))
          (λ a x. (kind_of a c, kind_of a d, subst (BinaryKinds op (kind_of a c) (kind_of a d)) x.0 (binary_gives op n a), x.1.0, x.1.1))
          (λ a x.
          let y = binary_takes op x.0 x.1 (kind_of a k) n a x.2 in (
            y.0,
            y.1,
            (
              y.4 ∙ sym (fixed a y.0 y.1),
              (
                subst (HasKind types (kinds_under y.0 o) (scope_under y.0 names) e) (sym y.2) (moved n e x.0 g a y.0 y.1 x.3),
                subst (HasKind types (kinds_under y.0 o) (scope_under y.0 names) f) (sym y.3) (moved n f x.1 g a y.0 y.1 x.4),
              ),
            ),
          ))
      expression_asks n (SequenceOf es) k g fixed =
          ask_own n (behind_expressions (suc n) es) k (SequenceOver (OpenEnd n)) SequenceKind (of_expressions types o (suc n) names es (OpenEnd n))
          (λ a j. AllHaveKind types (kinds_under a o) (scope_under a names) es j)
          (λ a j. HasKind types (kinds_under a o) (scope_under a names) (SequenceOf es) j) (λ a. refl) fixed
          (expressions_asks (suc n) es (OpenEnd n) (in_use_more n (suc n) names (omega arith) g) (own_fixed n))
          (λ a b j agree h. hangs n names (λ K S i. AllHaveKind types K S es i) (λ c. j) g (λ c d f. refl) a b agree h) (λ a j h. h)
          (λ a i h. all_sequence_only (kinds_under a o) (scope_under a names) es i h)
      expression_asks n (SetOf es) k g fixed =
          ask_own n (behind_expressions (suc n) es) k (SetOver (OpenEnd n)) SetKind (of_expressions types o (suc n) names es (OpenEnd n))
          (λ a j. AllHaveKind types (kinds_under a o) (scope_under a names) es j)
          (λ a j. HasKind types (kinds_under a o) (scope_under a names) (SetOf es) j) (λ a. refl) fixed
          (expressions_asks (suc n) es (OpenEnd n) (in_use_more n (suc n) names (omega arith) g) (own_fixed n))
          (λ a b j agree h. hangs n names (λ K S i. AllHaveKind types K S es i) (λ c. j) g (λ c d f. refl) a b agree h) (λ a j h. h)
          (λ a i h. all_set_only (kinds_under a o) (scope_under a names) es i h)
      expression_asks n (Range e f) k g fixed =
          let p = behind_expression n e in
          let q = behind_expression p f in
          let first = expression_asks n e IntEnd g (λ a b agree. refl) in
          ask_same n q (of_expression types o n names (Range e f) k) (λ a. (SetKind IntKind ≡ kind_of a k) × (Kinded e IntEnd a × Kinded f IntEnd a)) (Kinded (Range e f) k)
          (ask_both n n q ((SetOver IntEnd, k) ∷ []) (of_expression types o n names e IntEnd ++ of_expression types o p names f IntEnd)
          (λ a. SetKind IntKind ≡ kind_of a k) (λ a. Kinded e IntEnd a × Kinded f IntEnd a)
          (ask_equal n (SetOver IntEnd) k (λ a b agree. refl) fixed)
          (ask_both n p q (of_expression types o n names e IntEnd) (of_expression types o p names f IntEnd) (Kinded e IntEnd) (Kinded f IntEnd) first
          (expression_asks p f IntEnd (in_use_more n p names first.rising g) (λ a b agree. refl)) (kinded_hangs n f IntEnd g (λ a b agree. refl)))
          (λ a b agree h. (kinded_hangs n e IntEnd g (λ a b agree. refl) a b agree h.0, kinded_hangs n f IntEnd g (λ a b agree. refl) a b agree h.1)))
          (λ a x. subst (HasKind types (kinds_under a o) (scope_under a names) (Range e f)) x.0 x.1) (λ a h. range_only (kinds_under a o) (scope_under a names) e f (kind_of a k) h)
      expression_asks n Booleans k g fixed =
          ask_same n n ((SetOver BoolEnd, k) ∷ []) (λ a. SetKind BoolKind ≡ kind_of a k) (Kinded Booleans k) (ask_equal n (SetOver BoolEnd) k (λ a b agree. refl) fixed)
          (λ a e. subst (HasKind types (kinds_under a o) (scope_under a names) Booleans) e tt) (λ a h. booleans_only (kinds_under a o) (scope_under a names) (kind_of a k) h)
      expression_asks n (Datatype d) k g fixed = ask_when n n (slice_get types.datatypes d) (λ cs. (SetOver (DatatypeEnd d), k) ∷ []) (Kinded (Datatype d) k) (omega arith)
          (λ cs is. ask_same n n ((SetOver (DatatypeEnd d), k) ∷ []) (λ a. SetKind (DatatypeKind d) ≡ kind_of a k) (Kinded (Datatype d) k)
          (ask_equal n (SetOver (DatatypeEnd d)) k (λ a b agree. refl) fixed)
          (λ a e. subst (HasKind types (kinds_under a o) (scope_under a names) (Datatype d)) e (refl, (cs, is))) (λ a h. (datatype_only (kinds_under a o) (scope_under a names) d (kind_of a k) h).0))
          (λ none a h. let x = datatype_only (kinds_under a o) (scope_under a names) d (kind_of a k) h in cc (sym none ∙ x.1.1))
      expression_asks n (Nametype x) k g fixed = ask_when n n (slice_get o.nametypes x) (λ m. (SetOver (OpenEnd m), k) ∷ []) (Kinded (Nametype x) k) (omega arith)
          (λ m is. ask_same n n ((SetOver (OpenEnd m), k) ∷ []) (λ a. SetKind (a m) ≡ kind_of a k) (Kinded (Nametype x) k)
          (ask_equal n (SetOver (OpenEnd m)) k (λ a b agree. ap SetKind (agree m (each_got (λ i. i < n) o.nametypes x m g.0.nametypes is))) fixed)
          (λ a e. subst (HasKind types (kinds_under a o) (scope_under a names) (Nametype x)) e (slice_get-map a o.nametypes x ∙ ap (option_map a) is))
          (λ a h.
          let y = nametype_only (kinds_under a o) (scope_under a names) x (kind_of a k) h in
          let e : Some (a m) ≡ Some y.0 = sym (ap (option_map a) is) ∙ sym (slice_get-map a o.nametypes x) ∙ y.2 in
          let same : a m ≡ y.0 = cc e in ap SetKind same ∙ y.1))
          (λ none a h.
          let y = nametype_only (kinds_under a o) (scope_under a names) x (kind_of a k) h in
          let e : None ≡ Some y.0 = sym (ap (option_map a) none) ∙ sym (slice_get-map a o.nametypes x) ∙ y.2 in cc e)
      expression_asks n (ConstructorOf c es) k g fixed =
          let p = behind_expressions n es in
          let rising : n ≤ p = expressions_rise n es in
          let fields = when (slice_get o.constructors c) (of_all types o n names es) in
          ask_when n p (slice_get o.owners c) (λ d. (DatatypeEnd d, k) ∷ fields) (Kinded (ConstructorOf c es) k) rising
          (λ d is. ask_same n p ((DatatypeEnd d, k) ∷ fields) (λ a. (DatatypeKind d ≡ kind_of a k) × GivenFit c es (kinds_under a o) (scope_under a names)) (Kinded (ConstructorOf c es) k)
          (ask_both n n p ((DatatypeEnd d, k) ∷ []) fields (λ a. DatatypeKind d ≡ kind_of a k) (λ a. GivenFit c es (kinds_under a o) (scope_under a names))
          (ask_equal n (DatatypeEnd d) k (λ a b agree. refl) fixed) (given_ask n c es g rising (λ ms small. all_asks n es ms g small)) (hangs n names (λ K S (x : ℕ). GivenFit c es K S) (λ a. 0) g (λ a b agree. refl)))
          (λ a x. subst (HasKind types (kinds_under a o) (scope_under a names) (ConstructorOf c es)) x.0 ((owners d c).1 is, x.1))
          (λ a h.
          let x = written_only (kinds_under a o) (scope_under a names) c es (kind_of a k) h in
          let same : x.0 ≡ d = cc (sym x.2 ∙ is) in (ap DatatypeKind (sym same) ∙ x.1, x.3)))
          (λ none a h. let x = written_only (kinds_under a o) (scope_under a names) c es (kind_of a k) h in let e = sym none ∙ x.2 in cc e)

      pub expressions_asks : (n : ℕ) (es : Expressions) (k : Chain) → InUse n names → Fixed n (λ a. kind_of a k) →
          Ask n (of_expressions types o n names es k) (behind_expressions n es) (AllKinded es k)
      expressions_asks n no_expressions k g fixed = ask_nothing n
      expressions_asks n (expression_and e es) k g fixed =
          let p = behind_expression n e in
          let first = expression_asks n e k g fixed in
          ask_both n p (behind_expressions p es) (of_expression types o n names e k) (of_expressions types o p names es k) (Kinded e k) (AllKinded es k) first
          (expressions_asks p es k (in_use_more n p names first.rising g) (fixed_more n p (λ a. kind_of a k) first.rising fixed))
          (hangs n names (λ K S j. AllHaveKind types K S es j) (λ a. kind_of a k) g fixed)

      -- in turn
      pub all_asks : (n : ℕ) (es : Expressions) (ms : List ℕ) → InUse n names → Each (λ m. m < n) ms →
          Ask n (of_all types o n names es ms) (behind_expressions n es) (λ a. HaveKinds types (kinds_under a o) (scope_under a names) es (map a ms))
      all_asks n no_expressions [] g small = ask_nothing n
      all_asks n no_expressions (m ∷ ms) g small = ask_never n n _ (omega arith) (λ a h. h)
      all_asks n (expression_and e es) [] g small = ask_never n (behind_expressions n (expression_and e es)) _ (expressions_rise n (expression_and e es)) (λ a h. h)
      all_asks n (expression_and e es) (m ∷ ms) g small =
          let p = behind_expression n e in
          let first = expression_asks n e (OpenEnd m) g (number_fixed n m small.0) in
          ask_both n p (behind_expressions p es) (of_expression types o n names e (OpenEnd m)) (of_all types o p names es ms) (Kinded e (OpenEnd m))
          (λ a. HaveKinds types (kinds_under a o) (scope_under a names) es (map a ms)) first
          (all_asks p es ms (in_use_more n p names first.rising g) (each_less n p ms first.rising small.1))
          (hangs n names (λ K S ks. HaveKinds types K S es ks) (λ a. map a ms) g (fixed_numbers n ms small.1))

    pub first_asks : (n : ℕ) (es : Expressions) (ms : List ℕ) → InUse n names → Each (λ m. m < n) ms →
        Ask n (of_first types o n names es ms) (behind_expressions n es) (λ a. HaveFirstKinds types (kinds_under a o) (scope_under a names) es (map a ms))
    first_asks n no_expressions ms g small = ask_nothing n
    first_asks n (expression_and e es) [] g small = ask_never n (behind_expressions n (expression_and e es)) _ (expressions_rise n (expression_and e es)) (λ a h. h)
    first_asks n (expression_and e es) (m ∷ ms) g small =
        let p = behind_expression n e in
        let first = expression_asks n e (OpenEnd m) g (number_fixed n m small.0) in
        ask_both n p (behind_expressions p es) (of_expression types o n names e (OpenEnd m)) (of_first types o p names es ms) (Kinded e (OpenEnd m))
        (λ a. HaveFirstKinds types (kinds_under a o) (scope_under a names) es (map a ms)) first
        (first_asks p es ms (in_use_more n p names first.rising g) (each_less n p ms first.rising small.1))
        (hangs n names (λ K S ks. HaveFirstKinds types K S es ks) (λ a. map a ms) g (fixed_numbers n ms small.1))
