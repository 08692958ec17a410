-- What is to blame in an expression explains why it has no value.
use Rattle.std.proofs.Common.{◌≡◌, ℕ, suc, ◌+◌, Bool, true, false, cond, List, [], ◌∷◌, slice_get, Option, Some, None, Result, Ok, Err, ok_or, refl, sym, ◌∙◌, ap, subst, arith}
use Rattle.std.specs.Option.{option_or}
use Rattle.std.specs.Result.{result_err}
use Rattle.theory_syntax.specs.Value.{Value, has_value, sorted_values}
use Rattle.theory_syntax.specs.Expression.{Expression, Literal, Name, Apply, Combine, SequenceOf, SetOf, Range, Booleans, Datatype, Nametype, ConstructorOf, Expressions, no_expressions, expression_and, expressions_list, Binary}
use Rattle.theory_syntax.specs.Process.{Script}
use Rattle.theory_syntax.specs.Types.{Types}
use Rattle.theory_semantics.specs.Kinds.Kind.{Each}
use Rattle.theory_semantics.specs.Meaning.Evaluation.{Cause, IllKinded, OutOfRange, ◌and_then◌, apply, combine, constructed, constructor_sets, decides, given_values, in_field_set, range_of, sequence, set_of, value, values}
use Rattle.theory_faults.specs.Culprit.{Culprit, OfConstructor, Outside, Owner, Valueless, over_sets}
use Rattle.theory_faults.specs.Expressions.{as_value, culprit, first_culprit, given_culprit, or_itself, outside, with_values}
use Rattle.theory_faults.specs.Truth.{Explains, HasValue, IsToBlame, operands, sets_of}
use Rattle.theory_faults.proofs.Blaming.{blamed_map, blamed_then}

module _ (s : Script) where
  abbrev types : Types
  types = s.types

  -- ---- an expression with the values of its operands

  as_value_same : (e : Expression) → value types (as_value types e) ≡ value types e
  as_value_same e = by (value types e) refl
    where
      by : (r : Result Value Cause) → value types e ≡ r → value types (elim r [ Ok v ↦ Literal v | Err c ↦ e ]) ≡ r
      by (Ok v) is = refl
      by (Err c) is = is

  with_values_same : (e : Expression) → value types (with_values types e) ≡ value types e
  with_values_same (Literal v) = refl
  with_values_same (Name n) = refl
  with_values_same (Apply op e) = ap (λ r. r and_then λ v. apply op v) (as_value_same e)
  with_values_same (Combine op e f) =
      ap (λ r. r and_then λ v. elim (decides op v) [ true ↦ Ok v | false ↦ value types (as_value types f) and_then λ w. combine op v w ]) (as_value_same e)
      ∙ ap (λ q. value types e and_then λ v. elim (decides op v) [ true ↦ Ok v | false ↦ q and_then λ w. combine op v w ]) (as_value_same f)
  with_values_same (SequenceOf es) = refl
  with_values_same (SetOf es) = refl
  with_values_same (Range e f) =
      ap (λ r. r and_then λ v. value types (as_value types f) and_then λ w. range_of v w) (as_value_same e)
      ∙ ap (λ q. value types e and_then λ v. q and_then λ w. range_of v w) (as_value_same f)
  with_values_same Booleans = refl
  with_values_same (Datatype d) = refl
  with_values_same (Nametype n) = refl
  with_values_same (ConstructorOf k es) = refl

  as_value_has : (e : Expression) → HasValue types e → HasValue types (as_value types e)
  as_value_has e h = (h.0, as_value_same e ∙ h.1)

  with_values_have : (e : Expression) → Each (HasValue types) (operands e) → Each (HasValue types) (operands (with_values types e))
  with_values_have (Apply op e) h = (as_value_has e h.0, tt)
  with_values_have (Combine op e f) h = (as_value_has e h.0, (as_value_has f h.1.0, tt))
  with_values_have (Range e f) h = (as_value_has e h.0, (as_value_has f h.1.0, tt))
  with_values_have (SequenceOf es) h = h
  with_values_have (SetOf es) h = h
  with_values_have (ConstructorOf k es) h = h
  with_values_have (Literal v) h = h
  with_values_have (Name n) h = h
  with_values_have Booleans h = h
  with_values_have (Datatype d) h = h
  with_values_have (Nametype n) h = h

  -- ---- the expression itself, or what was found in it

  -- what was found explains the cause, or else these have values
  abbrev Found : Option Culprit → Cause → List Expression → Type 0
  Found (Some k) c es = Explains s c k
  Found None c es = Each (HasValue types) es

  itself : (e : Expression) (found : Option Culprit) → ((c : Cause) → value types e ≡ Err c → Found found c (operands e)) →
      IsToBlame s (or_itself types e found) (result_err (value types e))
  itself e found told = by found (value types e) refl told
    where
      by : (o : Option Culprit) (r : Result Value Cause) → value types e ≡ r → ((c : Cause) → value types e ≡ Err c → Found o c (operands e)) →
          IsToBlame s (elim r [ Ok v ↦ None | Err c ↦ option_or o (Some (Valueless (with_values types e) c)) ]) (result_err r)
      by o (Ok v) is h = tt
      by (Some k) (Err c) is h = h c is
      by None (Err c) is h = (refl, with_values_same e ∙ is, with_values_have e (h c is))

  -- what was found in a list of parts whose results come first
  in_all : {X : Type 0} (o : Option Culprit) (r : Result X Cause) (f : X → Result Value Cause) (c : Cause) (es : List Expression) →
      IsToBlame s o (result_err r) → ((x : X) → r ≡ Ok x → Each (HasValue types) es) → r and_then f ≡ Err c → Found o c es
  in_all (Some k) (Ok x) f c es h have is = absurd h
  in_all (Some k) (Err d) f c es h have is = let same : d ≡ c = cc is in let P : Cause → Type 0 = λ b. Explains s b k in subst P same h
  in_all None (Ok x) f c es h have is = have x refl
  in_all None (Err d) f c es h have is = absurd h

  -- what was found in two operands, of which the right one may be left out
  in_two : (e f : Expression) (o p : Option Culprit) (q r : Result Value Cause) (g : Value → Result Value Cause) (c : Cause) →
      value types e ≡ q → value types f ≡ r → IsToBlame s o (result_err q) → IsToBlame s p (result_err r) →
      ((v : Value) (d : Cause) → r ≡ Err d → g v ≡ Err c → d ≡ c) → q and_then g ≡ Err c → Found (option_or o p) c (e ∷ f ∷ [])
  in_two e f (Some k) p (Ok v) r g c here there h j later is = absurd h
  in_two e f (Some k) p (Err d) r g c here there h j later is = let same : d ≡ c = cc is in let P : Cause → Type 0 = λ b. Explains s b k in subst P same h
  in_two e f None p (Err d) r g c here there h j later is = absurd h
  in_two e f None (Some k) (Ok v) (Ok w) g c here there h j later is = absurd j
  in_two e f None (Some k) (Ok v) (Err d) g c here there h j later is = let P : Cause → Type 0 = λ b. Explains s b k in subst P (later v d refl is) j
  in_two e f None None (Ok v) (Ok w) g c here there h j later is = ((v, here), ((w, there), tt))
  in_two e f None None (Ok v) (Err d) g c here there h j later is = absurd j

  combined_later : (op : Binary) (v : Value) (r : Result Value Cause) (c d : Cause) (b : Bool) → r ≡ Err d →
      ◌≡◌ {A = Result Value Cause} (elim b [ true ↦ Ok v | false ↦ r and_then λ w. combine op v w ]) (Err c) → d ≡ c
  combined_later op v r c d true none is = absurd (cc is)
  combined_later op v (Ok w) c d false none is = absurd (cc none)
  combined_later op v (Err b) c d false none is = let one : b ≡ d = cc none in let other : b ≡ c = cc is in sym one ∙ other

  range_later : (v : Value) (r : Result Value Cause) (c d : Cause) → r ≡ Err d → (r and_then λ w. range_of v w) ≡ Err c → d ≡ c
  range_later v (Ok w) c d none is = absurd (cc none)
  range_later v (Err b) c d none is = let one : b ≡ d = cc none in let other : b ≡ c = cc is in sym one ∙ other

  -- ---- lists of values

  values_have : (es : Expressions) (vs : List Value) → values types es ≡ Ok vs → Each (HasValue types) (expressions_list es)
  values_have no_expressions vs is = tt
  values_have (expression_and e es) vs is = by (value types e) (values types es) refl refl is (values_have es)
    where
      by : (q : Result Value Cause) (r : Result (List Value) Cause) → value types e ≡ q → values types es ≡ r → (q and_then λ v. r and_then λ ws. Ok (v ∷ ws)) ≡ Ok vs →
          ((ws : List Value) → values types es ≡ Ok ws → Each (HasValue types) (expressions_list es)) → Each (HasValue types) (e ∷ expressions_list es)
      by (Ok v) (Ok ws) here there so rest = ((v, here), rest ws there)
      by (Ok v) (Err c) here there so rest = absurd (cc so)
      by (Err c) r here there so rest = absurd (cc so)

  given_have : (es : Expressions) (sets : List (List Value)) (vs : List Value) → given_values types es sets ≡ Ok vs → Each (HasValue types) (expressions_list es)
  given_have no_expressions sets vs is = tt
  given_have (expression_and e es) [] vs is = absurd (cc is)
  given_have (expression_and e es) (set ∷ sets) vs is = by (value types e) (given_values types es sets) refl refl is (given_have es sets)
    where
      within : (v : Value) (b : Bool) (r : Result (List Value) Cause) → given_values types es sets ≡ r →
          ◌≡◌ {A = Result (List Value) Cause} (cond b (Ok v) (Err OutOfRange) and_then λ w. r and_then λ ws. Ok (v ∷ ws)) (Ok vs) →
          ((ws : List Value) → given_values types es sets ≡ Ok ws → Each (HasValue types) (expressions_list es)) → Each (HasValue types) (expressions_list es)
      within v true (Ok ws) there so rest = rest ws there
      within v true (Err c) there so rest = absurd (cc so)
      within v false r there so rest = absurd (cc so)

      by : (q : Result Value Cause) (r : Result (List Value) Cause) → value types e ≡ q → given_values types es sets ≡ r →
          (q and_then λ v. in_field_set set v and_then λ w. r and_then λ ws. Ok (v ∷ ws)) ≡ Ok vs →
          ((ws : List Value) → given_values types es sets ≡ Ok ws → Each (HasValue types) (expressions_list es)) → Each (HasValue types) (e ∷ expressions_list es)
      by (Ok v) r here there so rest = ((v, here), within v (has_value set v) r there so rest)
      by (Err c) r here there so rest = absurd (cc so)

  -- ---- a given field

  -- a value of the field with this number either lies in its set, or is to blame
  pub outside_blamed : (owner : Owner) (i : ℕ) (all : List (List Value)) (set : List Value) (v : Value) → sets_of s owner ≡ Some all → slice_get all i ≡ Some set →
      IsToBlame s (outside owner i set (Ok v)) (result_err (in_field_set set v))
  outside_blamed owner i all set v own at = by (has_value set v) refl
    where
      by : (b : Bool) → has_value set v ≡ b → IsToBlame s (cond b None (Some (Outside owner (suc i) v))) (result_err (cond b (Ok v) (Err OutOfRange)))
      by true is = tt
      by false is = (refl, (all, set, own, at, is))

  -- the field with its set, and what comes behind
  pub field_blamed : {Y : Type 0} (owner : Owner) (i : ℕ) (all : List (List Value)) (set : List Value) (r : Result Value Cause) (g : Value → Result Y Cause) (o p : Option Culprit) →
      sets_of s owner ≡ Some all → slice_get all i ≡ Some set → IsToBlame s o (result_err r) → ((v : Value) → IsToBlame s p (result_err (g v))) →
      IsToBlame s (option_or o (option_or (outside owner i set r) p)) (result_err (r and_then λ v. in_field_set set v and_then λ w. g v))
  field_blamed owner i all set (Ok v) g (Some k) p own at h rest = absurd h
  field_blamed owner i all set (Ok v) g None p own at h rest =
      blamed_then s (in_field_set set v) (λ w. g v) (outside owner i set (Ok v)) p (outside_blamed owner i all set v own at) (λ w is. rest v)
  field_blamed owner i all set (Err c) g (Some k) p own at h rest = h
  field_blamed owner i all set (Err c) g None p own at h rest = absurd h

  -- these are the sets of the fields from this number on
  abbrev pub AreFrom : ℕ → List (List Value) → List (List Value) → Type 0
  AreFrom i all sets = (j : ℕ) → slice_get sets j ≡ slice_get all (i + j)

  pub first_from : (i : ℕ) (all : List (List Value)) (set : List Value) (sets : List (List Value)) → AreFrom i all (set ∷ sets) → slice_get all i ≡ Some set
  first_from i all set sets from = let e : i + 0 ≡ i = omega arith in ap (slice_get all) (sym e) ∙ sym (from 0)

  pub rest_from : (i : ℕ) (all : List (List Value)) (set : List Value) (sets : List (List Value)) → AreFrom i all (set ∷ sets) → AreFrom (suc i) all sets
  rest_from i all set sets from j = let e : i + suc j ≡ suc i + j = omega arith in from (suc j) ∙ ap (slice_get all) e

  pub all_from : (all : List (List Value)) → AreFrom 0 all all
  all_from all j = let e : 0 + j ≡ j = omega arith in ap (slice_get all) (sym e)

  -- ---- expressions

  -- what was found in the fields of a constructor
  fields_found : (k : ℕ) (es : Expressions) →
      ((all : List (List Value)) → slice_get types.constructors k ≡ Some all → IsToBlame s (given_culprit types (OfConstructor k) 0 es all) (result_err (given_values types es all))) →
      (o : Option (List (List Value))) → slice_get types.constructors k ≡ o → (c : Cause) → value types (ConstructorOf k es) ≡ Err c →
      Found (over_sets (constructor_sets types k) (λ sets. given_culprit types (OfConstructor k) 0 es sets)) c (expressions_list es)
  fields_found k es given (Some all) at c is =
      let P : Option (List (List Value)) → Type 0 = λ o. Found (over_sets (ok_or o IllKinded) (λ sets. given_culprit types (OfConstructor k) 0 es sets)) c (expressions_list es) in
      let so : (given_values types es all and_then λ vs. constructed k all vs) ≡ Err c =
      ap (λ o. ok_or o IllKinded and_then λ sets. given_values types es sets and_then λ vs. constructed k sets vs) (sym at) ∙ is in
      subst P (sym at) (in_all (given_culprit types (OfConstructor k) 0 es all) (given_values types es all) (constructed k all) c (expressions_list es)
      (given all at) (given_have es all) so)
  fields_found k es given None at c is =
      let P : Option (List (List Value)) → Type 0 = λ o. Found (over_sets (ok_or o IllKinded) (λ sets. given_culprit types (OfConstructor k) 0 es sets)) c (expressions_list es) in
      let so : ◌≡◌ {A = Result Value Cause} (Err IllKinded) (Err c) = ap (λ o. ok_or o IllKinded and_then λ sets. given_values types es sets and_then λ vs. constructed k sets vs) (sym at) ∙ is in
      let same : IllKinded ≡ c = cc so in
      subst P (sym at) (sym same)

  mutual
    pub culprit_blamed : (e : Expression) → IsToBlame s (culprit types e) (result_err (value types e))
    culprit_blamed (Literal v) = itself (Literal v) None (λ c is. tt)
    culprit_blamed (Name n) = itself (Name n) None (λ c is. tt)
    culprit_blamed Booleans = itself Booleans None (λ c is. tt)
    culprit_blamed (Datatype d) = itself (Datatype d) None (λ c is. tt)
    culprit_blamed (Nametype n) = itself (Nametype n) None (λ c is. tt)
    culprit_blamed (Apply op e) =
        itself (Apply op e) (culprit types e) (λ c. in_all (culprit types e) (value types e) (apply op) c (e ∷ []) (culprit_blamed e) (λ v is. ((v, is), tt)))
    culprit_blamed (Combine op e f) =
        itself (Combine op e f) (option_or (culprit types e) (culprit types f)) (λ c. in_two e f (culprit types e) (culprit types f) (value types e) (value types f) _ c refl refl
        (culprit_blamed e) (culprit_blamed f) (λ v d none. combined_later op v (value types f) c d (decides op v) none))
    culprit_blamed (Range e f) =
        itself (Range e f) (option_or (culprit types e) (culprit types f)) (λ c. in_two e f (culprit types e) (culprit types f) (value types e) (value types f) _ c refl refl
        (culprit_blamed e) (culprit_blamed f) (λ v d none. range_later v (value types f) c d none))
    culprit_blamed (SequenceOf es) =
        itself (SequenceOf es) (first_culprit types es) (λ c. in_all (first_culprit types es) (values types es) sequence c (expressions_list es) (first_blamed es) (values_have es))
    culprit_blamed (SetOf es) =
        itself (SetOf es) (first_culprit types es) (λ c. in_all (first_culprit types es) (values types es) (λ vs. set_of (sorted_values vs)) c (expressions_list es) (first_blamed es) (values_have es))
    culprit_blamed (ConstructorOf k es) =
        itself (ConstructorOf k es) (over_sets (constructor_sets types k) (λ sets. given_culprit types (OfConstructor k) 0 es sets)) (fields_found k es (λ all at. given_blamed (OfConstructor k) all at 0 es all (all_from all)) (slice_get types.constructors k) refl)

    pub first_blamed : (es : Expressions) → IsToBlame s (first_culprit types es) (result_err (values types es))
    first_blamed no_expressions = tt
    first_blamed (expression_and e es) =
        blamed_then s (value types e) _ (culprit types e) (first_culprit types es) (culprit_blamed e) (λ v is. blamed_map s (values types es) (λ vs. v ∷ vs) (first_culprit types es) (first_blamed es))

    pub given_blamed : (owner : Owner) (all : List (List Value)) → sets_of s owner ≡ Some all → (i : ℕ) (es : Expressions) (sets : List (List Value)) → AreFrom i all sets →
        IsToBlame s (given_culprit types owner i es sets) (result_err (given_values types es sets))
    given_blamed owner all own i no_expressions sets from = tt
    given_blamed owner all own i (expression_and e es) [] from = refl
    given_blamed owner all own i (expression_and e es) (set ∷ sets) from =
        field_blamed owner i all set (value types e) _ (culprit types e) (given_culprit types owner (suc i) es sets) own (first_from i all set sets from) (culprit_blamed e)
        (λ v. blamed_map s (given_values types es sets) (λ vs. v ∷ vs) (given_culprit types owner (suc i) es sets) (given_blamed owner all own (suc i) es sets (rest_from i all set sets from)))
