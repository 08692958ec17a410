-- The values of well-kinded expressions have their kinds.
use Rattle.std.proofs.Common.{◌≡◌, ℕ, zero, suc, nat_le, nat_eq, Bool, true, false, not, cond, filter, map, List, [], ◌∷◌, ◌++◌, length, slice_get, ℤ, pos, negsuc, ◌+ℤ◌, ◌-ℤ◌, ◌*ℤ◌, neg_ℤ, Some, Result, Ok, Err, refl, ap, subst, Contains, arith}
use Rattle.std.specs.Prelude.{⊤}
use Rattle.std.proofs.lemmas.Bool.{eq-eqb}
use Rattle.std.specs.Ordering.{is_lt, nat_cmp}
use Rattle.theory_syntax.specs.Value.{Value, Integer, Truth, Constructor, Sequence, Set, Values, no_values, value_and, to_values, values_list, value_cmp, value_eq, has_value, insert_value, insert_values, sorted_values}
use Rattle.theory_syntax.specs.Expression.{Unary, Binary, Expression, Literal, Name, Apply, Combine, SequenceOf, SetOf, Range, Booleans, Datatype, Nametype, ConstructorOf, Expressions, no_expressions, expression_and}
use Rattle.theory_syntax.specs.Types.{Types}
use Rattle.theory_syntax.proofs.Orders.{value_total}
use Rattle.theory_semantics.specs.Meaning.Evaluation.{Cause, OutOfRange, Overflow, IllKinded, fits_word, integer, max_members, sequence, set_of, modulus, numbers_from, count_between, range, in_field_set, choices, with_all_fields, constructors, set_at, datatype_set, head_of, tail_of, apply, combine, decides, range_of, value, values, given_values}
use Rattle.theory_semantics.specs.Meaning.Offers.{RisesBy}
use Rattle.theory_semantics.specs.Kinds.Kind.{Kind, IntKind, BoolKind, DatatypeKind, SequenceKind, SetKind, Kinds, Each}
use Rattle.theory_semantics.specs.Kinds.Values.{IsConstructorOf, IsValueOf, AreValuesOf, AreValuesInTurn, MembersHaveKind, AreMembersOf}
use Rattle.theory_semantics.specs.Kinds.Expressions.{UnaryKinds, negate, negation, count, head, tail, is_null, card, BinaryKinds, add, subtract, multiply, remainder, concatenate, equals, differs, less_than, at_most, greater_than, at_least, conjunction, disjunction, is_element, is_member, unite, intersect, subtract_set, HasKind, AllHaveKind, HaveKinds}
use Rattle.theory_semantics.specs.Kinds.Scripts.{SetsHaveTheirKinds, TypesHaveKinds}
use Rattle.theory_semantics.specs.Laws.Values.{FieldSetsRise}
use Rattle.theory_semantics.proofs.RisingChoices.{constructors_rise}
use Rattle.theory_semantics.proofs.RisingValues.{filtered_rise, inserts_rise, sorted_rise, numbers_rise, members_rise}
use Rattle.theory_semantics.proofs.Misfits.{Gives, gives_told, gives_then, gives_cond, gives_surely, each_append, each_cond, each_filter, each_made, each_flat, each_got, ok_some, in_turn_get, begins, begins_has}

module _ (types : Types) (kinds : Kinds) where
  pub listed : (vs : Values) (k : Kind) → AreValuesOf types kinds vs k → MembersHaveKind types kinds (values_list vs) k
  listed no_values k h = tt
  listed (value_and v vs) k h = (h.0, listed vs k h.1)

  pub gathered : (vs : List Value) (k : Kind) → MembersHaveKind types kinds vs k → AreValuesOf types kinds (to_values vs) k
  gathered [] k h = tt
  gathered (v ∷ vs) k h = (h.0, gathered vs k h.1)

  -- what an expression of the kind may give
  abbrev pub GivesKind : Kind → Result Value Cause → Type 0
  GivesKind k r = Gives (λ v. IsValueOf types kinds v k) r

  integer_kind : (z : ℤ) → GivesKind IntKind (integer z)
  integer_kind z = gives_cond (λ v. IsValueOf types kinds v IntKind) (fits_word z) (Integer z) Overflow tt tt

  modulus_kind : (x y : ℤ) → GivesKind IntKind (modulus x y)
  modulus_kind (pos x) (pos (suc m)) = tt
  modulus_kind (negsuc x) (pos (suc m)) = tt
  modulus_kind _ _ = tt

  pub sequence_kind : (vs : List Value) (k : Kind) → MembersHaveKind types kinds vs k → GivesKind (SequenceKind k) (sequence vs)
  sequence_kind vs k h = gives_cond (λ v. IsValueOf types kinds v (SequenceKind k)) (nat_le (length vs) max_members) (Sequence (to_values vs)) Overflow (gathered vs k h) tt

  pub set_kind : (vs : List Value) (k : Kind) → AreMembersOf types kinds vs k → GivesKind (SetKind k) (set_of vs)
  set_kind vs k h =
      gives_cond (λ v. IsValueOf types kinds v (SetKind k)) (nat_le (length vs) max_members) (Set (to_values vs)) Overflow (gathered vs k h.0, members_rise vs h.1) tt

  numbers_kind : (x : ℤ) (n : ℕ) → MembersHaveKind types kinds (numbers_from x n) IntKind
  numbers_kind x zero = tt
  numbers_kind x (suc n) = (tt, numbers_kind (x +ℤ pos 1) n)

  range_kind : (x y : ℤ) → GivesKind (SetKind IntKind) (range x y)
  range_kind x y = by_test (nat_le (count_between x y) max_members)
    where
      by_test : (b : Bool) → GivesKind (SetKind IntKind) (elim b [ true ↦ set_of (numbers_from x (count_between x y)) | false ↦ Err Overflow ])
      by_test true = set_kind (numbers_from x (count_between x y)) IntKind (numbers_kind x (count_between x y), numbers_rise x (count_between x y))
      by_test false = tt

  insert_kind : (k : Kind) (v : Value) (ws : List Value) → IsValueOf types kinds v k → MembersHaveKind types kinds ws k → MembersHaveKind types kinds (insert_value v ws) k
  insert_kind k v [] g h = (g, tt)
  insert_kind k v (w ∷ ws) g h =
      let P : Value → Type 0 = λ u. IsValueOf types kinds u k in
      each_cond P (is_lt (value_cmp v w)) (v ∷ w ∷ ws) (cond (value_eq v w) (w ∷ ws) (w ∷ insert_value v ws)) (g, h)
      (each_cond P (value_eq v w) (w ∷ ws) (w ∷ insert_value v ws) h (h.0, insert_kind k v ws g h.1))

  pub inserts_kind : (k : Kind) (vs ws : List Value) → MembersHaveKind types kinds vs k → MembersHaveKind types kinds ws k → MembersHaveKind types kinds (insert_values vs ws) k
  inserts_kind k [] ws g h = h
  inserts_kind k (v ∷ vs) ws g h = inserts_kind k vs (insert_value v ws) g.1 (insert_kind k v ws g.0 h)

  kept_kind : (k : Kind) (test : Value → Bool) (vs : List Value) → AreMembersOf types kinds vs k → AreMembersOf types kinds (filter test vs) k
  kept_kind k test vs h = (each_filter (λ v. IsValueOf types kinds v k) test vs h.0, filtered_rise value_cmp value_total test vs h.1)

  head_kind : (k : Kind) (vs : List Value) → MembersHaveKind types kinds vs k → GivesKind k (head_of vs)
  head_kind k [] h = tt
  head_kind k (v ∷ vs) h = h.0

  tail_kind : (k : Kind) (vs : List Value) → MembersHaveKind types kinds vs k → GivesKind (SequenceKind k) (tail_of vs)
  tail_kind k [] h = tt
  tail_kind k (v ∷ vs) h = gathered vs k h.1

  pub apply_kind : (op : Unary) (m k : Kind) → UnaryKinds op m k → (v : Value) → IsValueOf types kinds v m → GivesKind k (apply op v)
  apply_kind op m k negate (Integer z) h = integer_kind (neg_ℤ z)
  apply_kind op m k negate _ h = absurd h
  apply_kind op m k negation (Truth b) h = tt
  apply_kind op m k negation _ h = absurd h
  apply_kind op m k count (Sequence vs) h = integer_kind (pos (length (values_list vs)))
  apply_kind op m k count _ h = absurd h
  apply_kind op m k head (Sequence vs) h = head_kind k (values_list vs) (listed vs k h)
  apply_kind op m k head _ h = absurd h
  apply_kind op m k (tail {k = n}) (Sequence vs) h = tail_kind n (values_list vs) (listed vs n h)
  apply_kind op m k tail _ h = absurd h
  apply_kind op m k is_null (Sequence vs) h = tt
  apply_kind op m k is_null _ h = absurd h
  apply_kind op m k card (Set vs) h = integer_kind (pos (length (values_list vs)))
  apply_kind op m k card _ h = absurd h

  pub combine_kind : (op : Binary) (m n k : Kind) → BinaryKinds op m n k → (v w : Value) → IsValueOf types kinds v m → IsValueOf types kinds w n → GivesKind k (combine op v w)
  combine_kind op m n k add (Integer x) (Integer y) g h = integer_kind (x +ℤ y)
  combine_kind op m n k subtract (Integer x) (Integer y) g h = integer_kind (x -ℤ y)
  combine_kind op m n k multiply (Integer x) (Integer y) g h = integer_kind (x *ℤ y)
  combine_kind op m n k remainder (Integer x) (Integer y) g h = modulus_kind x y
  combine_kind op m n k (concatenate {k = i}) (Sequence vs) (Sequence ws) g h =
      sequence_kind (values_list vs ++ values_list ws) i (each_append (λ v. IsValueOf types kinds v i) (values_list vs) (values_list ws) (listed vs i g) (listed ws i h))
  combine_kind op m n k equals v w g h = tt
  combine_kind op m n k differs v w g h = tt
  combine_kind op m n k less_than (Integer x) (Integer y) g h = tt
  combine_kind op m n k at_most (Integer x) (Integer y) g h = tt
  combine_kind op m n k greater_than (Integer x) (Integer y) g h = tt
  combine_kind op m n k at_least (Integer x) (Integer y) g h = tt
  combine_kind op m n k conjunction (Truth a) (Truth b) g h = tt
  combine_kind op m n k disjunction (Truth a) (Truth b) g h = tt
  combine_kind op m n k is_element v (Sequence ws) g h = tt
  combine_kind op m n k is_member v (Set ws) g h = tt
  combine_kind op m n k (unite {k = i}) (Set vs) (Set ws) g h = set_kind _ i (inserts_kind i (values_list vs) (values_list ws) (listed vs i g.0) (listed ws i h.0), inserts_rise (values_list vs) (values_list ws) h.1)
  combine_kind op m n k (intersect {k = i}) (Set vs) (Set ws) g h = set_kind _ i (kept_kind i (λ v. has_value (values_list ws) v) (values_list vs) (listed vs i g.0, g.1))
  combine_kind op m n k (subtract_set {k = i}) (Set vs) (Set ws) g h = set_kind _ i (kept_kind i (λ v. not (has_value (values_list ws) v)) (values_list vs) (listed vs i g.0, g.1))
  combine_kind op m n k _ _ _ g h = grind arith

  -- a left value that decides is the value
  pub decided_kind : (op : Binary) (m n k : Kind) → BinaryKinds op m n k → (v : Value) → IsValueOf types kinds v m → decides op v ≡ true → IsValueOf types kinds v k
  decided_kind op m n k conjunction v h e = h
  decided_kind op m n k disjunction v h e = h
  decided_kind op m n k _ v h e = absurd (cc e)

  decide_kind : (k : Kind) (b : Bool) (v : Value) (r : Result Value Cause) → (b ≡ true → IsValueOf types kinds v k) → GivesKind k r → GivesKind k (elim b [ true ↦ Ok v | false ↦ r ])
  decide_kind k true v r g h = g refl
  decide_kind k false v r g h = h

  pub range_of_kind : (v w : Value) → IsValueOf types kinds v IntKind → IsValueOf types kinds w IntKind → GivesKind (SetKind IntKind) (range_of v w)
  range_of_kind (Integer x) (Integer y) g h = range_kind x y
  range_of_kind _ _ g h = grind arith

  -- ---- constructors with their fields

  choices_kind : (sets : List (List Value)) (ks : List Kind) → SetsHaveTheirKinds types kinds sets ks → Each (λ vs. AreValuesInTurn types kinds (to_values vs) ks) (choices sets)
  choices_kind [] [] h = (tt, tt)
  choices_kind [] (k ∷ ks) h = absurd h
  choices_kind (set ∷ sets) [] h = absurd h
  choices_kind (set ∷ sets) (k ∷ ks) h =
      let P : List Value → Type 0 = λ vs. AreValuesInTurn types kinds (to_values vs) ks in
      let Q : List Value → Type 0 = λ vs. AreValuesInTurn types kinds (to_values vs) (k ∷ ks) in
      each_flat (λ v. IsValueOf types kinds v k) Q (λ v. map (λ vs. v ∷ vs) (choices sets)) set
      (λ v g. each_made P Q (λ vs. v ∷ vs) (choices sets) (λ vs i. (g, i)) (choices_kind sets ks h.1)) h.0.0

  pub with_all_fields_kind : (d c : ℕ) (sets : List (List Value)) (ks : List Kind) → IsConstructorOf types d c → slice_get kinds.constructors c ≡ Some ks → SetsHaveTheirKinds types kinds sets ks →
      MembersHaveKind types kinds (with_all_fields c sets) (DatatypeKind d)
  with_all_fields_kind d c sets ks is e h =
      each_made (λ vs. AreValuesInTurn types kinds (to_values vs) ks) (λ v. IsValueOf types kinds v (DatatypeKind d)) (λ vs. Constructor c (to_values vs)) (choices sets)
      (λ vs i. (is, (ks, e, i))) (choices_kind sets ks h)

  in_set_any : (set : List Value) (v : Value) → Gives (λ w. ⊤) (in_field_set set v)
  in_set_any set v = gives_cond (λ w. ⊤) (has_value set v) v OutOfRange tt tt

  -- ---- sets that rise

  pub sets_rise : (sets : List (List Value)) (ks : List Kind) → SetsHaveTheirKinds types kinds sets ks → Each (RisesBy value_cmp) sets
  sets_rise [] [] h = tt
  sets_rise [] (k ∷ ks) h = absurd h
  sets_rise (set ∷ sets) [] h = absurd h
  sets_rise (set ∷ sets) (k ∷ ks) h = (h.0.1, sets_rise sets ks h.1)

  module _ (good : TypesHaveKinds types kinds) where
    constructors_kind : (d : ℕ) (all cs : List ℕ) → slice_get types.datatypes d ≡ Some all → ((c : ℕ) → Contains cs c → Contains all c) →
        Gives (λ vs. MembersHaveKind types kinds vs (DatatypeKind d)) (constructors types cs)
    constructors_kind d all [] e within = tt
    constructors_kind d all (c ∷ cs) e within =
        let P : List Value → Type 0 = λ vs. MembersHaveKind types kinds vs (DatatypeKind d) in
        let is : IsConstructorOf types d c = (all, e, within c (0, omega arith, refl)) in
        let fields = good.fields d c is in
        let found = begins_has (SetsHaveTheirKinds types kinds) types.constructors kinds.constructors c fields.0 (begins (SetsHaveTheirKinds types kinds) types.constructors kinds.constructors good.constructors) fields.1 in
        rw (fields.1) (gives_then P P (constructors types cs) _ (constructors_kind d all cs e (λ b has. within b (suc has.0, let h = has.1 in omega arith, has.2)))
        (λ vs g. each_append (λ v. IsValueOf types kinds v (DatatypeKind d)) (with_all_fields c fields.0) vs (with_all_fields_kind d c fields.0 found.0 is found.1 found.2) g))

    -- the members of the field sets of a constructor rise
    fields_rise : FieldSetsRise types
    fields_rise c sets e =
        let first = begins (SetsHaveTheirKinds types kinds) types.constructors kinds.constructors good.constructors in
        let fields = begins_has (SetsHaveTheirKinds types kinds) types.constructors kinds.constructors c sets first (ok_some (slice_get types.constructors c) IllKinded sets e) in
        sets_rise sets fields.0 fields.2

    -- the set of a datatype, and that of a nametype
    pub datatype_kind : (d : ℕ) (cs : List ℕ) → slice_get types.datatypes d ≡ Some cs → GivesKind (SetKind (DatatypeKind d)) (datatype_set types (slice_get types.datatypes d))
    datatype_kind d cs e = rw e (gives_then (λ vs. AreMembersOf types kinds vs (DatatypeKind d)) (λ v. IsValueOf types kinds v (SetKind (DatatypeKind d))) (constructors types cs) _
        (gives_told (λ vs. MembersHaveKind types kinds vs (DatatypeKind d)) (RisesBy value_cmp) (constructors types cs) (constructors_kind d cs cs e (λ c has. has))
        (λ vs is. constructors_rise types fields_rise cs vs (each_got (RisesBy nat_cmp) types.datatypes d cs good.datatypes e) is)) (λ vs g. set_kind vs (DatatypeKind d) g))

    nametype_kind : (n : ℕ) (k : Kind) → slice_get kinds.nametypes n ≡ Some k → GivesKind (SetKind k) (set_at (slice_get types.nametypes n))
    nametype_kind n k e =
        let found = in_turn_get (AreMembersOf types kinds) types.nametypes kinds.nametypes n k good.nametypes e in
        rw (found.1) (set_kind found.0 k found.2)

    -- as many values as there are sets, of the kinds in turn
    abbrev AreGivenFor : List (List Value) → List Kind → List Value → Type 0
    AreGivenFor sets ks vs = (length vs ≡ length sets) × AreValuesInTurn types kinds (to_values vs) ks

    mutual
      pub value_kind : (e : Expression) (k : Kind) → HasKind types kinds [] e k → GivesKind k (value types e)
      value_kind (Literal v) k h = h
      value_kind (Name n) k h = absurd (cc h)
      value_kind (Apply op e) k h =
          gives_then (λ v. IsValueOf types kinds v h.0) (λ v. IsValueOf types kinds v k) (value types e) _ (value_kind e h.0 h.2) (λ v g. apply_kind op h.0 k h.1 v g)
      value_kind (Combine op e f) k h =
          gives_then (λ v. IsValueOf types kinds v h.0) (λ v. IsValueOf types kinds v k) (value types e) _ (value_kind e h.0 h.3) (λ v g.
          decide_kind k (decides op v) v _ (decided_kind op h.0 h.1 k h.2 v g)
          (gives_then (λ w. IsValueOf types kinds w h.1) (λ w. IsValueOf types kinds w k) (value types f) _ (value_kind f h.1 h.4) (λ w i. combine_kind op h.0 h.1 k h.2 v w g i)))
      value_kind (SequenceOf es) (SequenceKind k) h =
          gives_then (λ vs. MembersHaveKind types kinds vs k) (λ v. IsValueOf types kinds v (SequenceKind k)) (values types es) _ (values_kind es k h) (λ vs g. sequence_kind vs k g)
      value_kind (SetOf es) (SetKind k) h =
          gives_then (λ vs. MembersHaveKind types kinds vs k) (λ v. IsValueOf types kinds v (SetKind k)) (values types es) _ (values_kind es k h)
          (λ vs g. set_kind (sorted_values vs) k (inserts_kind k vs [] g tt, sorted_rise vs))
      value_kind (Range e f) (SetKind IntKind) h =
          gives_then (λ v. IsValueOf types kinds v IntKind) (λ v. IsValueOf types kinds v (SetKind IntKind)) (value types e) _ (value_kind e IntKind h.0) (λ v g.
          gives_then (λ w. IsValueOf types kinds w IntKind) (λ w. IsValueOf types kinds w (SetKind IntKind)) (value types f) _ (value_kind f IntKind h.1) (λ w i. range_of_kind v w g i))
      value_kind Booleans (SetKind BoolKind) h = set_kind (Truth false ∷ Truth true ∷ []) BoolKind ((tt, (tt, tt)), (refl, tt))
      value_kind (Datatype d) (SetKind (DatatypeKind c)) h = subst (λ b. GivesKind (SetKind (DatatypeKind b)) (datatype_set types (slice_get types.datatypes d))) h.0 (datatype_kind d h.1.0 h.1.1)
      value_kind (Nametype n) (SetKind k) h = nametype_kind n k h
      value_kind (ConstructorOf c es) (DatatypeKind d) h =
          let found = in_turn_get (SetsHaveTheirKinds types kinds) types.constructors kinds.constructors c h.1.0 good.constructors h.1.1 in
          rw (found.1) (gives_then (AreGivenFor found.0 h.1.0) (λ v. IsValueOf types kinds v (DatatypeKind d)) (given_values types es found.0) _ (given_kind es h.1.0 found.0 h.1.2 found.2) (λ vs g.
          gives_surely (λ v. IsValueOf types kinds v (DatatypeKind d)) (nat_eq (length vs) (length found.0)) (Constructor c (to_values vs)) IllKinded (eq-eqb (length vs) (length found.0) g.0) (h.0, (h.1.0, h.1.1, g.1))))
      value_kind _ _ h = absurd h

      pub values_kind : (es : Expressions) (k : Kind) → AllHaveKind types kinds [] es k → Gives (λ vs. MembersHaveKind types kinds vs k) (values types es)
      values_kind no_expressions k h = tt
      values_kind (expression_and e es) k h =
          gives_then (λ v. IsValueOf types kinds v k) (λ vs. MembersHaveKind types kinds vs k) (value types e) _ (value_kind e k h.0) (λ v g.
          gives_then (λ vs. MembersHaveKind types kinds vs k) (λ vs. MembersHaveKind types kinds vs k) (values types es) _ (values_kind es k h.1) (λ vs i. (g, i)))

      pub given_kind : (es : Expressions) (ks : List Kind) (sets : List (List Value)) → HaveKinds types kinds [] es ks → SetsHaveTheirKinds types kinds sets ks →
          Gives (AreGivenFor sets ks) (given_values types es sets)
      given_kind no_expressions [] [] h g = (refl, tt)
      given_kind no_expressions [] (set ∷ sets) h g = absurd g
      given_kind no_expressions (k ∷ ks) sets h g = absurd h
      given_kind (expression_and e es) [] sets h g = absurd h
      given_kind (expression_and e es) (k ∷ ks) [] h g = absurd g
      given_kind (expression_and e es) (k ∷ ks) (set ∷ sets) h g =
          let Q : List Value → Type 0 = AreGivenFor (set ∷ sets) (k ∷ ks) in
          gives_then (λ v. IsValueOf types kinds v k) Q (value types e) _ (value_kind e k h.0) (λ v i.
          gives_then (λ w. ⊤) Q (in_field_set set v) _ (in_set_any set v) (λ w j.
          gives_then (AreGivenFor sets ks) Q (given_values types es sets) _ (given_kind es ks sets h.1 g.1) (λ vs l. (ap suc l.0, (i, l.1)))))
