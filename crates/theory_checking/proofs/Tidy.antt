-- Of whichever kinds: the sets that expressions as they are written have are lists that rise, and so are the sets within their values.
use Rattle.std.specs.Prelude.{cond, filter, slice_get, IfSome, IfOk, ok_or, nat_eq, ⊤}
use Rattle.std.specs.Ordering.{is_lt, nat_cmp}
use Rattle.std.proofs.Common.{◌≡◌, ℕ, zero, suc, nat_le, Bool, true, false, not, List, [], ◌∷◌, ◌++◌, length, map, pos, negsuc, ℤ, ◌+ℤ◌, ◌-ℤ◌, ◌*ℤ◌, neg_ℤ, Option, Some, None, Result, Ok, Err, refl}
use Rattle.theory_syntax.specs.Value.{Value, Integer, Truth, Constructor, Sequence, Set, Values, no_values, value_and, to_values, values_list, value_cmp, value_eq, has_value, insert_value, insert_values, sorted_values}
use Rattle.theory_syntax.specs.Expression.{Unary, Negate, Not, Length, Head, Tail, IsNull, Card, Binary, Add, Subtract, Multiply, Modulus, Concatenate, LessThan, AtMost, GreaterThan, AtLeast, And, Or, IsElement, IsMember, Union, Intersection, Difference, Expression, Literal, Name, Apply, Combine, SequenceOf, SetOf, Range, Booleans, Datatype, Nametype, ConstructorOf, Expressions, no_expressions, expression_and}
use Rattle.theory_syntax.specs.Types.{Types}
use Rattle.theory_syntax.proofs.Orders.{value_total}
use Rattle.theory_semantics.specs.Meaning.Evaluation.{Cause, OutOfRange, Overflow, IllKinded, ◌and_then◌, fits_word, integer, max_members, modulus, numbers_from, count_between, range, in_field_set, constructor_sets, choices, with_all_fields, constructors, sequence, set_of, set_at, datatype_set, head_of, tail_of, apply, combine, decides, range_of, value, values, given_values}
use Rattle.theory_semantics.specs.Meaning.Events.{members_of, elements}
use Rattle.theory_semantics.specs.Meaning.Offers.{RisesBy}
use Rattle.theory_semantics.specs.Kinds.Kind.{Each}
use Rattle.theory_semantics.specs.Kinds.Values.{DatatypesRise}
use Rattle.theory_semantics.specs.Laws.Values.{FieldSetsRise}
use Rattle.theory_semantics.proofs.Misfits.{ok_some, each_append, each_cond, each_filter, each_made, each_flat, each_got, each_map}
use Rattle.theory_semantics.proofs.RisingChoices.{constructors_rise}
use Rattle.theory_semantics.proofs.RisingValues.{filtered_rise, inserts_rise, sorted_rise, numbers_rise, members_rise}

-- ---- tidy values

abbrev mutual
  pub IsTidy : Value → Type 0
  IsTidy (Integer z) = ⊤
  IsTidy (Truth b) = ⊤
  IsTidy (Constructor k vs) = AreTidy vs
  IsTidy (Sequence vs) = AreTidy vs
  IsTidy (Set vs) = AreTidy vs × RisesBy value_cmp (values_list vs)

  pub AreTidy : Values → Type 0
  AreTidy no_values = ⊤
  AreTidy (value_and v vs) = IsTidy v × AreTidy vs

-- the members of a tidy set
abbrev pub IsTidySet : List Value → Type 0
IsTidySet vs = Each IsTidy vs × RisesBy value_cmp vs

each_tidy : (vs : Values) → AreTidy vs → Each IsTidy (values_list vs)
each_tidy no_values h = tt
each_tidy (value_and v vs) h = (h.0, each_tidy vs h.1)

all_tidy : (vs : List Value) → Each IsTidy vs → AreTidy (to_values vs)
all_tidy [] h = tt
all_tidy (v ∷ vs) h = (h.0, all_tidy vs h.1)

-- what holds of a value, if there is one
ok_then : {A B : Type 0} (P : A → Type 0) (Q : B → Type 0) (r : Result A Cause) (f : A → Result B Cause) → IfOk r P → ((x : A) → P x → IfOk (f x) Q) → IfOk (r and_then f) Q
ok_then P Q (Ok x) f h g = g x h
ok_then P Q (Err c) f h g = tt

ok_cond : {A : Type 0} (P : A → Type 0) (b : Bool) (x : A) (c : Cause) → P x → IfOk (cond b (Ok x) (Err c)) P
ok_cond P true x c h = h
ok_cond P false x c h = tt

ok_told : {A : Type 0} (P Q : A → Type 0) (r : Result A Cause) → IfOk r P → ((x : A) → r ≡ Ok x → Q x) → IfOk r (λ x. P x × Q x)
ok_told P Q (Ok x) h told = (h, told x refl)
ok_told P Q (Err c) h told = tt

-- ---- what is made of tidy values

integer_tidy : (z : ℤ) → IfOk (integer z) IsTidy
integer_tidy z = ok_cond IsTidy (fits_word z) (Integer z) Overflow tt

modulus_tidy : (x y : ℤ) → IfOk (modulus x y) IsTidy
modulus_tidy (pos x) (pos (suc m)) = tt
modulus_tidy (negsuc x) (pos (suc m)) = tt
modulus_tidy _ _ = tt

sequence_tidy : (vs : List Value) → Each IsTidy vs → IfOk (sequence vs) IsTidy
sequence_tidy vs h = ok_cond IsTidy (nat_le (length vs) max_members) (Sequence (to_values vs)) Overflow (all_tidy vs h)

set_tidy : (vs : List Value) → IsTidySet vs → IfOk (set_of vs) IsTidy
set_tidy vs h = ok_cond IsTidy (nat_le (length vs) max_members) (Set (to_values vs)) Overflow (all_tidy vs h.0, members_rise vs h.1)

numbers_tidy : (x : ℤ) (n : ℕ) → Each IsTidy (numbers_from x n)
numbers_tidy x zero = tt
numbers_tidy x (suc n) = (tt, numbers_tidy (x +ℤ pos 1) n)

range_tidy : (x y : ℤ) → IfOk (range x y) IsTidy
range_tidy x y = by_test (nat_le (count_between x y) max_members)
  where
    by_test : (b : Bool) → IfOk (elim b [ true ↦ set_of (numbers_from x (count_between x y)) | false ↦ Err Overflow ]) IsTidy
    by_test true = set_tidy (numbers_from x (count_between x y)) (numbers_tidy x (count_between x y), numbers_rise x (count_between x y))
    by_test false = tt

insert_tidy : (v : Value) (ws : List Value) → IsTidy v → Each IsTidy ws → Each IsTidy (insert_value v ws)
insert_tidy v [] g h = (g, tt)
insert_tidy v (w ∷ ws) g h =
    each_cond IsTidy (is_lt (value_cmp v w)) (v ∷ w ∷ ws) (cond (value_eq v w) (w ∷ ws) (w ∷ insert_value v ws)) (g, h)
    (each_cond IsTidy (value_eq v w) (w ∷ ws) (w ∷ insert_value v ws) h (h.0, insert_tidy v ws g h.1))

inserts_tidy : (vs ws : List Value) → Each IsTidy vs → Each IsTidy ws → Each IsTidy (insert_values vs ws)
inserts_tidy [] ws g h = h
inserts_tidy (v ∷ vs) ws g h = inserts_tidy vs (insert_value v ws) g.1 (insert_tidy v ws g.0 h)

filtered_tidy : (test : Value → Bool) (vs : List Value) → IsTidySet vs → IsTidySet (filter test vs)
filtered_tidy test vs h = (each_filter IsTidy test vs h.0, filtered_rise value_cmp value_total test vs h.1)

head_tidy : (vs : List Value) → Each IsTidy vs → IfOk (head_of vs) IsTidy
head_tidy [] h = tt
head_tidy (v ∷ vs) h = h.0

tail_tidy : (vs : List Value) → Each IsTidy vs → IfOk (tail_of vs) IsTidy
tail_tidy [] h = tt
tail_tidy (v ∷ vs) h = all_tidy vs h.1

apply_tidy : (op : Unary) (v : Value) → IsTidy v → IfOk (apply op v) IsTidy
apply_tidy Negate (Integer z) h = integer_tidy (neg_ℤ z)
apply_tidy Not (Truth b) h = tt
apply_tidy Length (Sequence vs) h = integer_tidy (pos (length (values_list vs)))
apply_tidy Head (Sequence vs) h = head_tidy (values_list vs) (each_tidy vs h)
apply_tidy Tail (Sequence vs) h = tail_tidy (values_list vs) (each_tidy vs h)
apply_tidy IsNull (Sequence vs) h = tt
apply_tidy Card (Set vs) h = integer_tidy (pos (length (values_list vs)))
apply_tidy _ _ h = tt

combine_tidy : (op : Binary) (v w : Value) → IsTidy v → IsTidy w → IfOk (combine op v w) IsTidy
combine_tidy Add (Integer x) (Integer y) g h = integer_tidy (x +ℤ y)
combine_tidy Subtract (Integer x) (Integer y) g h = integer_tidy (x -ℤ y)
combine_tidy Multiply (Integer x) (Integer y) g h = integer_tidy (x *ℤ y)
combine_tidy Modulus (Integer x) (Integer y) g h = modulus_tidy x y
combine_tidy Concatenate (Sequence vs) (Sequence ws) g h = sequence_tidy (values_list vs ++ values_list ws) (each_append IsTidy (values_list vs) (values_list ws) (each_tidy vs g) (each_tidy ws h))
combine_tidy Union (Set vs) (Set ws) g h =
    set_tidy (insert_values (values_list vs) (values_list ws)) (inserts_tidy (values_list vs) (values_list ws) (each_tidy vs g.0) (each_tidy ws h.0), inserts_rise (values_list vs) (values_list ws) h.1)
combine_tidy Intersection (Set vs) (Set ws) g h = set_tidy _ (filtered_tidy (λ v. has_value (values_list ws) v) (values_list vs) (each_tidy vs g.0, g.1))
combine_tidy Difference (Set vs) (Set ws) g h = set_tidy _ (filtered_tidy (λ v. not (has_value (values_list ws) v)) (values_list vs) (each_tidy vs g.0, g.1))
combine_tidy LessThan (Integer x) (Integer y) g h = tt
combine_tidy AtMost (Integer x) (Integer y) g h = tt
combine_tidy GreaterThan (Integer x) (Integer y) g h = tt
combine_tidy AtLeast (Integer x) (Integer y) g h = tt
combine_tidy And (Truth a) (Truth b) g h = tt
combine_tidy Or (Truth a) (Truth b) g h = tt
combine_tidy IsElement v (Sequence ws) g h = tt
combine_tidy IsMember v (Set ws) g h = tt
combine_tidy _ _ _ g h = tt

decide_tidy : (b : Bool) (v : Value) (r : Result Value Cause) → IsTidy v → IfOk r IsTidy → IfOk (elim b [ true ↦ Ok v | false ↦ r ]) IsTidy
decide_tidy true v r g h = g
decide_tidy false v r g h = h

range_of_tidy : (v w : Value) → IfOk (range_of v w) IsTidy
range_of_tidy (Integer x) (Integer y) = range_tidy x y
range_of_tidy _ _ = tt

-- ---- constructors with their fields

choices_tidy : (sets : List (List Value)) → Each IsTidySet sets → Each (λ vs. AreTidy (to_values vs)) (choices sets)
choices_tidy [] h = (tt, tt)
choices_tidy (set ∷ sets) h =
    let P : List Value → Type 0 = λ vs. AreTidy (to_values vs) in
    each_flat IsTidy P (λ v. map (λ vs. v ∷ vs) (choices sets)) set (λ v g. each_made P P (λ vs. v ∷ vs) (choices sets) (λ vs i. (g, i)) (choices_tidy sets h.1)) h.0.0

with_all_fields_tidy : (k : ℕ) (sets : List (List Value)) → Each IsTidySet sets → Each IsTidy (with_all_fields k sets)
with_all_fields_tidy k sets h = each_made (λ vs. AreTidy (to_values vs)) IsTidy (λ vs. Constructor k (to_values vs)) (choices sets) (λ vs i. i) (choices_tidy sets h)

-- ---- values of expressions

-- the values that are written in the expression are tidy
abbrev mutual
  pub HasTidyLiterals : Expression → Type 0
  HasTidyLiterals (Literal v) = IsTidy v
  HasTidyLiterals (Name n) = ⊤
  HasTidyLiterals (Apply op e) = HasTidyLiterals e
  HasTidyLiterals (Combine op e f) = HasTidyLiterals e × HasTidyLiterals f
  HasTidyLiterals (SequenceOf es) = HaveTidyLiterals es
  HasTidyLiterals (SetOf es) = HaveTidyLiterals es
  HasTidyLiterals (Range e f) = HasTidyLiterals e × HasTidyLiterals f
  HasTidyLiterals Booleans = ⊤
  HasTidyLiterals (Datatype d) = ⊤
  HasTidyLiterals (Nametype n) = ⊤
  HasTidyLiterals (ConstructorOf k es) = HaveTidyLiterals es

  pub HaveTidyLiterals : Expressions → Type 0
  HaveTidyLiterals no_expressions = ⊤
  HaveTidyLiterals (expression_and e es) = HasTidyLiterals e × HaveTidyLiterals es

-- each datatype's constructors rise, and the sets of nametypes and fields are tidy
pub record AreTidyTypes (types : Types) : Type 0 where
  pub datatypes : DatatypesRise types
  pub nametypes : Each IsTidySet types.nametypes
  pub constructors : Each (Each IsTidySet) types.constructors

nametype_tidy : (o : Option (List Value)) → IfSome o IsTidySet → IfOk (set_at o) IsTidy
nametype_tidy (Some vs) h = set_tidy vs h
nametype_tidy None h = tt

each_if : {A : Type 0} (P : A → Type 0) (xs : List A) (n : ℕ) → Each P xs → IfSome (slice_get xs n) P
each_if P [] n h = tt
each_if P (x ∷ xs) zero h = h.0
each_if P (x ∷ xs) (suc n) h = each_if P xs n h.1

found_if : {A : Type 0} (P : A → Type 0) (o : Option A) (c : Cause) → IfSome o P → IfOk (ok_or o c) P
found_if P (Some x) c h = h
found_if P None c h = tt

module _ (types : Types) (tidy : AreTidyTypes types) where
  sets_tidy : (k : ℕ) → IfOk (constructor_sets types k) (Each IsTidySet)
  sets_tidy k = found_if (Each IsTidySet) (slice_get types.constructors k) IllKinded (each_if (Each IsTidySet) types.constructors k tidy.constructors)

  fields_rise : FieldSetsRise types
  fields_rise k sets e =
      each_map IsTidySet (RisesBy value_cmp) sets (λ vs h. h.1) (each_got (Each IsTidySet) types.constructors k sets tidy.constructors (ok_some (slice_get types.constructors k) IllKinded sets e))

  constructors_tidy : (ks : List ℕ) → IfOk (constructors types ks) (Each IsTidy)
  constructors_tidy [] = tt
  constructors_tidy (k ∷ ks) =
      ok_then (Each IsTidySet) (Each IsTidy) (constructor_sets types k) _ (sets_tidy k) (λ sets g.
      ok_then (Each IsTidy) (Each IsTidy) (constructors types ks) _ (constructors_tidy ks) (λ vs h. each_append IsTidy (with_all_fields k sets) vs (with_all_fields_tidy k sets g) h))

  datatype_tidy : (o : Option (List ℕ)) → IfSome o (RisesBy nat_cmp) → IfOk (datatype_set types o) IsTidy
  datatype_tidy (Some ks) h =
      ok_then IsTidySet IsTidy (constructors types ks) _ (ok_told (Each IsTidy) (RisesBy value_cmp) (constructors types ks) (constructors_tidy ks) (λ vs is. constructors_rise types fields_rise ks vs h is))
      (λ vs g. set_tidy vs g)
  datatype_tidy None h = tt

  mutual
    pub value_tidy : (e : Expression) → HasTidyLiterals e → IfOk (value types e) IsTidy
    value_tidy (Literal v) h = h
    value_tidy (Name n) h = tt
    value_tidy (Apply op e) h = ok_then IsTidy IsTidy (value types e) _ (value_tidy e h) (λ v g. apply_tidy op v g)
    value_tidy (Combine op e f) h =
        ok_then IsTidy IsTidy (value types e) _ (value_tidy e h.0) (λ v g.
        decide_tidy (decides op v) v _ g (ok_then IsTidy IsTidy (value types f) _ (value_tidy f h.1) (λ w i. combine_tidy op v w g i)))
    value_tidy (SequenceOf es) h = ok_then (Each IsTidy) IsTidy (values types es) _ (values_tidy es h) (λ vs g. sequence_tidy vs g)
    value_tidy (SetOf es) h = ok_then (Each IsTidy) IsTidy (values types es) _ (values_tidy es h) (λ vs g. set_tidy (sorted_values vs) (inserts_tidy vs [] g tt, sorted_rise vs))
    value_tidy (Range e f) h = ok_then IsTidy IsTidy (value types e) _ (value_tidy e h.0) (λ v g. ok_then IsTidy IsTidy (value types f) _ (value_tidy f h.1) (λ w i. range_of_tidy v w))
    value_tidy Booleans h = set_tidy (Truth false ∷ Truth true ∷ []) ((tt, (tt, tt)), (refl, tt))
    value_tidy (Datatype d) h = datatype_tidy (slice_get types.datatypes d) (each_if (RisesBy nat_cmp) types.datatypes d tidy.datatypes)
    value_tidy (Nametype n) h = nametype_tidy (slice_get types.nametypes n) (each_if IsTidySet types.nametypes n tidy.nametypes)
    value_tidy (ConstructorOf k es) h =
        ok_then (Each IsTidySet) IsTidy (constructor_sets types k) _ (sets_tidy k) (λ sets g.
        ok_then (Each IsTidy) IsTidy (given_values types es sets) _ (given_tidy es sets h) (λ vs i. ok_cond IsTidy (nat_eq (length vs) (length sets)) (Constructor k (to_values vs)) IllKinded (all_tidy vs i)))

    values_tidy : (es : Expressions) → HaveTidyLiterals es → IfOk (values types es) (Each IsTidy)
    values_tidy no_expressions h = tt
    values_tidy (expression_and e es) h =
        ok_then IsTidy (Each IsTidy) (value types e) _ (value_tidy e h.0) (λ v g. ok_then (Each IsTidy) (Each IsTidy) (values types es) _ (values_tidy es h.1) (λ vs i. (g, i)))

    given_tidy : (es : Expressions) (sets : List (List Value)) → HaveTidyLiterals es → IfOk (given_values types es sets) (Each IsTidy)
    given_tidy no_expressions sets h = tt
    given_tidy (expression_and e es) [] h = tt
    given_tidy (expression_and e es) (set ∷ sets) h =
        ok_then IsTidy (Each IsTidy) (value types e) _ (value_tidy e h.0) (λ v g.
        ok_then (λ w. ⊤) (Each IsTidy) (in_field_set set v) _ (ok_cond (λ w. ⊤) (has_value set v) v OutOfRange tt) (λ w j.
        ok_then (Each IsTidy) (Each IsTidy) (given_values types es sets) _ (given_tidy es sets h.1) (λ vs i. (g, i))))

  pub elements_tidy : (e : Expression) → HasTidyLiterals e → IfOk (elements types e) IsTidySet
  elements_tidy e h = ok_then IsTidy IsTidySet (value types e) _ (value_tidy e h) members_tidy
    where
      members_tidy : (v : Value) → IsTidy v → IfOk (members_of v) IsTidySet
      members_tidy (Set vs) g = (each_tidy vs g.0, g.1)
      members_tidy _ g = tt
