-- Sets that are evaluated one after the other, over the nametypes so far.
use Rattle.std.proofs.Common.{◌≡◌, ℕ, zero, suc, nat_eq, cond, Contains, Bool, true, false, List, [], ◌∷◌, ◌++◌, length, slice_get, Option, Some, None, Result, Ok, Err, refl, sym, ◌∙◌, ap, subst, arith}
use Rattle.std.specs.Ordering.{nat_cmp}
use Rattle.theory_syntax.specs.Value.{Value, Integer, Truth, Constructor, Sequence, Set, Values, no_values, value_and, to_values, values_list, sorted_values}
use Rattle.theory_syntax.specs.Expression.{Expression, Literal, Name, Apply, Combine, SequenceOf, SetOf, Range, Booleans, Datatype, Nametype, ConstructorOf, Expressions, no_expressions, expression_and}
use Rattle.theory_syntax.specs.Types.{Types}
use Rattle.theory_semantics.specs.Meaning.Evaluation.{Cause, IllKinded, ◌and_then◌, in_field_set, constructor_sets, with_all_fields, constructors, constructed, sequence, set_of, set_at, datatype_set, apply, combine, decides, range_of, value, values, given_values}
use Rattle.theory_semantics.specs.Meaning.Events.{members_of, elements}
use Rattle.theory_semantics.specs.Meaning.Offers.{RisesBy}
use Rattle.theory_semantics.specs.Kinds.Kind.{Kind, IntKind, BoolKind, DatatypeKind, SequenceKind, SetKind, Kinds, Scope, InTurn, BeginsInTurn}
use Rattle.theory_semantics.specs.Kinds.Values.{IsConstructorOf, IsValueOf, AreValuesOf, AreValuesInTurn, MembersHaveKind, AreMembersOf}
use Rattle.theory_semantics.specs.Kinds.Expressions.{HasKind, AllHaveKind, HaveKinds}
use Rattle.theory_semantics.specs.Kinds.Scripts.{SetsHaveTheirKinds, HaveFieldSets, TypesHaveKinds, TypesHaveFirstKinds}
use Rattle.theory_semantics.specs.Laws.Values.{FieldSetsRise, HasAllTypes, with_nametype, with_constructor}
use Rattle.theory_semantics.proofs.Misfits.{gives_value, each_append, each_map, each_got, ok_some, begins_has, in_turn_map}
use Rattle.theory_semantics.proofs.RisingChoices.{constructors_rise}
use Rattle.theory_semantics.proofs.RisingValues.{sorted_rise}
use Rattle.theory_semantics.proofs.KindedValues.{listed, sequence_kind, set_kind, inserts_kind, apply_kind, combine_kind, decided_kind, range_of_kind, with_all_fields_kind, sets_rise}

-- ---- other types with the same datatypes

module _ (types others : Types) (kinds : Kinds) (same : types.datatypes ≡ others.datatypes) where
  same_constructor : (d c : ℕ) → IsConstructorOf types d c → IsConstructorOf others d c
  same_constructor d c is = (is.0, ap (λ ds. slice_get ds d) (sym same) ∙ is.1, is.2)

  mutual
    pub same_value : (v : Value) (k : Kind) → IsValueOf types kinds v k → IsValueOf others kinds v k
    same_value (Integer z) IntKind h = tt
    same_value (Truth b) BoolKind h = tt
    same_value (Constructor c vs) (DatatypeKind d) h = (same_constructor d c h.0, (h.1.0, h.1.1, same_in_turn vs h.1.0 h.1.2))
    same_value (Sequence vs) (SequenceKind k) h = same_values vs k h
    same_value (Set vs) (SetKind k) h = (same_values vs k h.0, h.1)
    same_value _ _ h = absurd h

    same_values : (vs : Values) (k : Kind) → AreValuesOf types kinds vs k → AreValuesOf others kinds vs k
    same_values no_values k h = tt
    same_values (value_and v vs) k h = (same_value v k h.0, same_values vs k h.1)

    same_in_turn : (vs : Values) (ks : List Kind) → AreValuesInTurn types kinds vs ks → AreValuesInTurn others kinds vs ks
    same_in_turn no_values [] h = tt
    same_in_turn (value_and v vs) (k ∷ ks) h = (same_value v k h.0, same_in_turn vs ks h.1)
    same_in_turn _ _ h = absurd h

  pub same_members : (vs : List Value) (k : Kind) → AreMembersOf types kinds vs k → AreMembersOf others kinds vs k
  same_members vs k h = (each_map (λ v. IsValueOf types kinds v k) (λ v. IsValueOf others kinds v k) vs (λ v g. same_value v k g) h.0, h.1)

  pub same_sets : (sets : List (List Value)) (ks : List Kind) → SetsHaveTheirKinds types kinds sets ks → SetsHaveTheirKinds others kinds sets ks
  same_sets sets ks h = in_turn_map (AreMembersOf types kinds) (AreMembersOf others kinds) sets ks same_members h

  module _ (scope : Scope) where
    mutual
      pub same_expression : (e : Expression) (k : Kind) → HasKind types kinds scope e k → HasKind others kinds scope e k
      same_expression (Literal v) k h = same_value v k h
      same_expression (Name n) k h = h
      same_expression (Apply op e) k h = (h.0, h.1, same_expression e h.0 h.2)
      same_expression (Combine op e f) k h = (h.0, h.1, h.2, same_expression e h.0 h.3, same_expression f h.1 h.4)
      same_expression (SequenceOf es) (SequenceKind k) h = same_expressions es k h
      same_expression (SetOf es) (SetKind k) h = same_expressions es k h
      same_expression (Range e f) (SetKind IntKind) h = (same_expression e IntKind h.0, same_expression f IntKind h.1)
      same_expression Booleans (SetKind BoolKind) h = tt
      same_expression (Datatype d) (SetKind (DatatypeKind c)) h = (h.0, (h.1.0, ap (λ ds. slice_get ds d) (sym same) ∙ h.1.1))
      same_expression (Nametype n) (SetKind k) h = h
      same_expression (ConstructorOf c es) (DatatypeKind d) h = (same_constructor d c h.0, (h.1.0, h.1.1, same_given es h.1.0 h.1.2))
      same_expression _ _ h = absurd h

      same_expressions : (es : Expressions) (k : Kind) → AllHaveKind types kinds scope es k → AllHaveKind others kinds scope es k
      same_expressions no_expressions k h = tt
      same_expressions (expression_and e es) k h = (same_expression e k h.0, same_expressions es k h.1)

      same_given : (es : Expressions) (ks : List Kind) → HaveKinds types kinds scope es ks → HaveKinds others kinds scope es ks
      same_given no_expressions [] h = tt
      same_given (expression_and e es) (k ∷ ks) h = (same_expression e k h.0, same_given es ks h.1)
      same_given _ _ h = absurd h

-- ---- lists in step, the first one not longer

begins_get : {A B : Type 0} (P : A → B → Type 0) (xs : List A) (ys : List B) (n : ℕ) (x : A) (y : B) → BeginsInTurn P xs ys → slice_get xs n ≡ Some x → slice_get ys n ≡ Some y → P x y
begins_get P [] ys n x y h e f = absurd (cc e)
begins_get P (w ∷ xs) [] n x y h e f = absurd h
begins_get P (w ∷ xs) (z ∷ ys) zero x y h e f = let left : w ≡ x = cc e in let right : z ≡ y = cc f in subst (λ a. P a y) left (subst (P w) right h.0)
begins_get P (w ∷ xs) (z ∷ ys) (suc n) x y h e f = begins_get P xs ys n x y h.1 e f

begins_next : {A B : Type 0} (P : A → B → Type 0) (xs : List A) (ys : List B) (x : A) (y : B) → BeginsInTurn P xs ys → slice_get ys (length xs) ≡ Some y → P x y → BeginsInTurn P (xs ++ x ∷ []) ys
begins_next P [] [] x y h e p = absurd (cc e)
begins_next P [] (z ∷ ys) x y h e p = let same : z ≡ y = cc e in (subst (P x) (sym same) p, tt)
begins_next P (w ∷ xs) [] x y h e p = absurd h
begins_next P (w ∷ xs) (z ∷ ys) x y h e p = (h.0, begins_next P xs ys x y h.1 e p)

-- a list that begins in step with one as long is in step with it
pub begins_all : {A B : Type 0} (P : A → B → Type 0) (xs : List A) (ys : List B) → BeginsInTurn P xs ys → length xs ≡ length ys → InTurn P xs ys
begins_all P [] [] h e = tt
begins_all P [] (y ∷ ys) h e = absurd (omega (arith, e))
begins_all P (x ∷ xs) [] h e = absurd h
begins_all P (x ∷ xs) (y ∷ ys) h e = (h.0, begins_all P xs ys h.1 (omega (arith, e)))

begins_map : {A B : Type 0} (P Q : A → B → Type 0) (xs : List A) (ys : List B) → ((x : A) (y : B) → P x y → Q x y) → BeginsInTurn P xs ys → BeginsInTurn Q xs ys
begins_map P Q [] ys f h = tt
begins_map P Q (x ∷ xs) [] f h = absurd h
begins_map P Q (x ∷ xs) (y ∷ ys) f h = (f x y h.0, begins_map P Q xs ys f h.1)

-- ---- values that there are

then_ok : {A B : Type 0} (r : Result A Cause) (f : A → Result B Cause) (y : B) → (r and_then f) ≡ Ok y → (x : A) × (r ≡ Ok x) × (f x ≡ Ok y)
then_ok (Ok x) f y e = (x, refl, e)
then_ok (Err c) f y e = absurd (cc e)

-- a left value that decides, or else the rest
abbrev decided_or : Bool → Value → Result Value Cause → Result Value Cause
decided_or b v r = elim b [ true ↦ Ok v | false ↦ r ]

constructed_is : (b : Bool) (v w : Value) → cond b (Ok v) (Err IllKinded) ≡ Ok w → v ≡ w
constructed_is true v w e = cc e
constructed_is false v w e = absurd (cc e)

module _ (types : Types) (kinds : Kinds) (sets : TypesHaveFirstKinds types kinds) where
  -- the sets of a constructor that is there
  fields_ok : (c : ℕ) (s : List (List Value)) → constructor_sets types c ≡ Ok s → (ks : List Kind) × (slice_get kinds.constructors c ≡ Some ks) × SetsHaveTheirKinds types kinds s ks
  fields_ok c s e = begins_has (SetsHaveTheirKinds types kinds) types.constructors kinds.constructors c s sets.constructors (ok_some (slice_get types.constructors c) IllKinded s e)

  fields_rise : FieldSetsRise types
  fields_rise c s e = let fields = fields_ok c s e in sets_rise types kinds s fields.0 fields.2

  constructors_ok : (d : ℕ) (all cs : List ℕ) (vs : List Value) → slice_get types.datatypes d ≡ Some all → ((c : ℕ) → Contains cs c → Contains all c) →
      constructors types cs ≡ Ok vs → MembersHaveKind types kinds vs (DatatypeKind d)
  constructors_ok d all [] vs e within is = let same : [] ≡ vs = cc is in subst (λ us. MembersHaveKind types kinds us (DatatypeKind d)) same tt
  constructors_ok d all (c ∷ cs) vs e within is =
      let first = then_ok (constructor_sets types c) (λ s. constructors types cs and_then λ us. Ok (with_all_fields c s ++ us)) vs is in
      let rest = then_ok (constructors types cs) (λ us. Ok (with_all_fields c first.0 ++ us)) vs first.2 in
      let same : with_all_fields c first.0 ++ rest.0 ≡ vs = cc rest.2 in
      let fields = fields_ok c first.0 first.1 in
      subst (λ us. MembersHaveKind types kinds us (DatatypeKind d)) same
      (each_append (λ v. IsValueOf types kinds v (DatatypeKind d)) (with_all_fields c first.0) rest.0
      (with_all_fields_kind types kinds d c first.0 fields.0 (all, e, within c (0, omega arith, refl)) fields.1 fields.2)
      (constructors_ok d all cs rest.0 e (λ b has. within b (suc has.0, let h = has.1 in omega arith, has.2)) rest.1))

  datatype_ok : (d : ℕ) (v : Value) (o : Option (List ℕ)) → slice_get types.datatypes d ≡ o → datatype_set types o ≡ Ok v → IsValueOf types kinds v (SetKind (DatatypeKind d))
  datatype_ok d v (Some cs) e is =
      let left = then_ok (constructors types cs) (λ us. set_of us) v is in
      gives_value (λ w. IsValueOf types kinds w (SetKind (DatatypeKind d))) (set_of left.0) v
      (set_kind types kinds left.0 (DatatypeKind d) (constructors_ok d cs cs left.0 e (λ c has. has) left.1, constructors_rise types fields_rise cs left.0 (each_got (RisesBy nat_cmp) types.datatypes d cs sets.datatypes e) left.1))
      left.2
  datatype_ok d v None e is = absurd (cc is)

  nametype_ok : (n : ℕ) (k : Kind) (v : Value) (o : Option (List Value)) → slice_get types.nametypes n ≡ o → slice_get kinds.nametypes n ≡ Some k → set_at o ≡ Ok v → IsValueOf types kinds v (SetKind k)
  nametype_ok n k v (Some vs) e f is = gives_value (λ w. IsValueOf types kinds w (SetKind k)) (set_of vs) v
      (set_kind types kinds vs k (begins_get (AreMembersOf types kinds) types.nametypes kinds.nametypes n vs k sets.nametypes e f)) is
  nametype_ok n k v None e f is = absurd (cc is)

  decide_ok : (k : Kind) (b : Bool) (v w : Value) (r : Result Value Cause) → (b ≡ true → IsValueOf types kinds v k) → (r ≡ Ok w → IsValueOf types kinds w k) → decided_or b v r ≡ Ok w → IsValueOf types kinds w k
  decide_ok k true v w r g h e = let same : v ≡ w = cc e in subst (λ u. IsValueOf types kinds u k) same (g refl)
  decide_ok k false v w r g h e = h e

  mutual
    pub value_ok : (e : Expression) (k : Kind) (v : Value) → HasKind types kinds [] e k → value types e ≡ Ok v → IsValueOf types kinds v k
    value_ok (Literal w) k v h is = let same : w ≡ v = cc is in subst (λ u. IsValueOf types kinds u k) same h
    value_ok (Name n) k v h is = absurd (cc is)
    value_ok (Apply op e) k v h is =
        let left = then_ok (value types e) (λ w. apply op w) v is in
        gives_value (λ u. IsValueOf types kinds u k) (apply op left.0) v (apply_kind types kinds op h.0 k h.1 left.0 (value_ok e h.0 left.0 h.2 left.1)) left.2
    value_ok (Combine op e f) k v h is =
        let left = then_ok (value types e) (λ w. decided_or (decides op w) w (value types f and_then λ u. combine op w u)) v is in
        let g = value_ok e h.0 left.0 h.3 left.1 in
        decide_ok k (decides op left.0) left.0 v (value types f and_then λ u. combine op left.0 u) (decided_kind types kinds op h.0 h.1 k h.2 left.0 g)
        (λ rest. let right = then_ok (value types f) (λ u. combine op left.0 u) v rest in
        gives_value (λ u. IsValueOf types kinds u k) (combine op left.0 right.0) v (combine_kind types kinds op h.0 h.1 k h.2 left.0 right.0 g (value_ok f h.1 right.0 h.4 right.1)) right.2)
        left.2
    value_ok (SequenceOf es) (SequenceKind k) v h is =
        let left = then_ok (values types es) (λ vs. sequence vs) v is in
        gives_value (λ u. IsValueOf types kinds u (SequenceKind k)) (sequence left.0) v (sequence_kind types kinds left.0 k (values_ok es k left.0 h left.1)) left.2
    value_ok (SetOf es) (SetKind k) v h is =
        let left = then_ok (values types es) (λ vs. set_of (sorted_values vs)) v is in
        gives_value (λ u. IsValueOf types kinds u (SetKind k)) (set_of (sorted_values left.0)) v
        (set_kind types kinds (sorted_values left.0) k (inserts_kind types kinds k left.0 [] (values_ok es k left.0 h left.1) tt, sorted_rise left.0)) left.2
    value_ok (Range e f) (SetKind IntKind) v h is =
        let left = then_ok (value types e) (λ w. value types f and_then λ u. range_of w u) v is in
        let right = then_ok (value types f) (λ u. range_of left.0 u) v left.2 in
        gives_value (λ u. IsValueOf types kinds u (SetKind IntKind)) (range_of left.0 right.0) v
        (range_of_kind types kinds left.0 right.0 (value_ok e IntKind left.0 h.0 left.1) (value_ok f IntKind right.0 h.1 right.1)) right.2
    value_ok Booleans (SetKind BoolKind) v h is = gives_value (λ u. IsValueOf types kinds u (SetKind BoolKind)) (set_of (Truth false ∷ Truth true ∷ [])) v
        (set_kind types kinds (Truth false ∷ Truth true ∷ []) BoolKind ((tt, (tt, tt)), (refl, tt))) is
    value_ok (Datatype d) (SetKind (DatatypeKind c)) v h is =
        subst (λ b. IsValueOf types kinds v (SetKind (DatatypeKind b))) h.0 (datatype_ok d v (slice_get types.datatypes d) refl is)
    value_ok (Nametype n) (SetKind k) v h is = nametype_ok n k v (slice_get types.nametypes n) refl h is
    value_ok (ConstructorOf c es) (DatatypeKind d) v h is =
        let first = then_ok (constructor_sets types c) (λ s. given_values types es s and_then λ vs. constructed c s vs) v is in
        let given = then_ok (given_values types es first.0) (λ vs. constructed c first.0 vs) v first.2 in
        let fields = fields_ok c first.0 first.1 in
        let same_kinds : fields.0 ≡ h.1.0 = let both : Some fields.0 ≡ Some h.1.0 = sym fields.1 ∙ h.1.1 in cc both in
        subst (λ u. IsValueOf types kinds u (DatatypeKind d)) (constructed_is (nat_eq (length given.0) (length first.0)) (Constructor c (to_values given.0)) v given.2)
        (h.0, (h.1.0, h.1.1, given_ok es h.1.0 first.0 given.0 h.1.2 (subst (SetsHaveTheirKinds types kinds first.0) same_kinds fields.2) given.1))
    value_ok _ _ v h is = absurd h

    values_ok : (es : Expressions) (k : Kind) (vs : List Value) → AllHaveKind types kinds [] es k → values types es ≡ Ok vs → MembersHaveKind types kinds vs k
    values_ok no_expressions k vs h is = let same : [] ≡ vs = cc is in subst (λ us. MembersHaveKind types kinds us k) same tt
    values_ok (expression_and e es) k vs h is =
        let left = then_ok (value types e) (λ v. values types es and_then λ us. Ok (v ∷ us)) vs is in
        let right = then_ok (values types es) (λ us. Ok (left.0 ∷ us)) vs left.2 in
        let same : left.0 ∷ right.0 ≡ vs = cc right.2 in
        subst (λ us. MembersHaveKind types kinds us k) same (value_ok e k left.0 h.0 left.1, values_ok es k right.0 h.1 right.1)

    pub given_ok : (es : Expressions) (ks : List Kind) (s : List (List Value)) (vs : List Value) → HaveKinds types kinds [] es ks → SetsHaveTheirKinds types kinds s ks →
        given_values types es s ≡ Ok vs → AreValuesInTurn types kinds (to_values vs) ks
    given_ok no_expressions [] s vs h g is = let same : [] ≡ vs = cc is in subst (λ us. AreValuesInTurn types kinds (to_values us) []) same tt
    given_ok no_expressions (k ∷ ks) s vs h g is = absurd h
    given_ok (expression_and e es) [] s vs h g is = absurd h
    given_ok (expression_and e es) (k ∷ ks) [] vs h g is = absurd g
    given_ok (expression_and e es) (k ∷ ks) (set ∷ s) vs h g is =
        let first = then_ok (value types e) (λ v. in_field_set set v and_then λ w. given_values types es s and_then λ us. Ok (v ∷ us)) vs is in
        let within = then_ok (in_field_set set first.0) (λ w. given_values types es s and_then λ us. Ok (first.0 ∷ us)) vs first.2 in
        let rest = then_ok (given_values types es s) (λ us. Ok (first.0 ∷ us)) vs within.2 in
        let same : first.0 ∷ rest.0 ≡ vs = cc rest.2 in
        subst (λ us. AreValuesInTurn types kinds (to_values us) (k ∷ ks)) same (value_ok e k first.0 h.0 first.1, given_ok es ks s rest.0 h.1 g.1 rest.1)

  members_ok : (k : Kind) (v : Value) (vs : List Value) → IsValueOf types kinds v (SetKind k) → members_of v ≡ Ok vs → AreMembersOf types kinds vs k
  members_ok k (Set us) vs h is = let same : values_list us ≡ vs = cc is in subst (λ ws. AreMembersOf types kinds ws k) same (listed types kinds us k h.0, h.1)
  members_ok k _ vs h is = absurd h

  pub elements_ok : (e : Expression) (k : Kind) (vs : List Value) → HasKind types kinds [] e (SetKind k) → elements types e ≡ Ok vs → AreMembersOf types kinds vs k
  elements_ok e k vs h is = let whole = then_ok (value types e) (λ v. members_of v) vs is in members_ok k whole.0 vs (value_ok e (SetKind k) whole.0 h whole.1) whole.2

  pub next_set : (vs : List Value) (k : Kind) → slice_get kinds.nametypes (length types.nametypes) ≡ Some k → AreMembersOf types kinds vs k →
      TypesHaveFirstKinds (with_nametype vs types) kinds
  next_set vs k e h =
      let longer : Types = with_nametype vs types in record {
        nametypes = begins_map (AreMembersOf types kinds) (AreMembersOf longer kinds) (types.nametypes ++ vs ∷ []) kinds.nametypes (λ us j. same_members types longer kinds refl us j)
            (begins_next (AreMembersOf types kinds) types.nametypes kinds.nametypes vs k sets.nametypes e h);
        constructors = begins_map (SetsHaveTheirKinds types kinds) (SetsHaveTheirKinds longer kinds) types.constructors kinds.constructors (λ s ks. same_sets types longer kinds refl s ks) sets.constructors;
        datatypes = sets.datatypes;
      }

  pub next_fields : (s : List (List Value)) (ks : List Kind) → slice_get kinds.constructors (length types.constructors) ≡ Some ks → SetsHaveTheirKinds types kinds s ks →
      TypesHaveFirstKinds (with_constructor s types) kinds
  next_fields s ks e h =
      let longer : Types = with_constructor s types in record {
        nametypes = begins_map (AreMembersOf types kinds) (AreMembersOf longer kinds) types.nametypes kinds.nametypes (λ us j. same_members types longer kinds refl us j) sets.nametypes;
        constructors = begins_map (SetsHaveTheirKinds types kinds) (SetsHaveTheirKinds longer kinds) (types.constructors ++ s ∷ []) kinds.constructors (λ t js. same_sets types longer kinds refl t js)
            (begins_next (SetsHaveTheirKinds types kinds) types.constructors kinds.constructors s ks sets.constructors e h);
        datatypes = sets.datatypes;
      }

  pub all_sets : HasAllTypes types kinds → HaveFieldSets types → TypesHaveKinds types kinds
  all_sets e fields = record {
    nametypes = begins_all (AreMembersOf types kinds) types.nametypes kinds.nametypes sets.nametypes e.0;
    constructors = begins_all (SetsHaveTheirKinds types kinds) types.constructors kinds.constructors sets.constructors e.1;
    fields = fields;
    datatypes = sets.datatypes;
  }
