-- What is to blame in fields, in sets of events and in renamings explains why they have no value.
use Rattle.std.proofs.Common.{◌≡◌, ℕ, suc, Bool, true, false, ◌&&◌, cond, nat_eq, List, [], ◌∷◌, slice_get, length, filter, map, Option, Some, None, Result, Ok, Err, ok_or, refl, sym, ◌∙◌, ap, subst}
use Rattle.std.specs.Option.{option_or}
use Rattle.std.specs.Result.{result_err}
use Rattle.theory_syntax.specs.Value.{Event, Set, Truth, Value, has_value}
use Rattle.theory_syntax.specs.Expression.{Expression, Expressions, no_expressions, expression_and, expressions_list}
use Rattle.theory_syntax.specs.Process.{Field, Given, Input, InputFrom, EventExpression, EventSet, Enumeration, Productions, EventUnion, EventIntersection, EventDifference, RenamingPair, Script}
use Rattle.theory_syntax.specs.Types.{Types}
use Rattle.theory_semantics.specs.Meaning.Evaluation.{Cause, IllKinded, OutOfRange, ◌and_then◌, given_values, in_field_set, value}
use Rattle.theory_semantics.specs.Meaning.Events.{beginning_of, channel_images, communications, condition, elements, event_of, event_images, event_test, field_sets, is_bare, members_of, pair_images, prefix_communications, renaming, same_sets, truth_of}
use Rattle.theory_semantics.specs.Meaning.Substitution.{Bindings, bind, put_expression}
use Rattle.theory_faults.specs.Culprit.{Culprit, Misfit, OfChannel, first_found, misfit, over_sets}
use Rattle.theory_faults.specs.Events.{beginning_culprit, count_misfit, event_culprit, event_set_culprit, fields_culprit, pair_culprit, prefix_culprit}
use Rattle.theory_faults.specs.Expressions.{condition_culprit, culprit, given_culprit, listed, members, members_culprit, outside}
use Rattle.theory_faults.specs.Truth.{IsToBlame}
use Rattle.theory_faults.proofs.Blaming.{blamed_alone, blamed_map, blamed_then, each_blamed, each_list_blamed, misfit_blamed}
use Rattle.theory_faults.proofs.Expressions.{AreFrom, all_from, culprit_blamed, field_blamed, first_from, given_blamed, rest_from}

pub or_or : (a b c : Option Culprit) → option_or (option_or a b) c ≡ option_or a (option_or b c)
or_or (Some k) b c = refl
or_or None b c = refl

pub first_mapped : {X Y Z : Type 0} (look : Y → Option Z) (f : X → Y) (xs : List X) → first_found look (map f xs) ≡ first_found (λ x. look (f x)) xs
first_mapped look f [] = refl
first_mapped look f (x ∷ xs) = ap (option_or (look (f x))) (first_mapped look f xs)

module _ (s : Script) where
  abbrev types : Types
  types = s.types

  -- ---- conditions, and sets whose members are asked for

  -- behind the value nothing is lacking but the right kind
  last_misfit : {Y : Type 0} (r : Result Value Cause) (f : Value → Result Y Cause) (o : Option Culprit) → IsToBlame s o (result_err r) →
      ((v : Value) (c : Cause) → f v ≡ Err c → c ≡ IllKinded) → IsToBlame s (option_or o (misfit (r and_then f))) (result_err (r and_then f))
  last_misfit (Ok v) f None h only = misfit_blamed s (f v) (only v)
  last_misfit (Ok v) f (Some k) h only = absurd h
  last_misfit (Err c) f (Some k) h only = h
  last_misfit (Err c) f None h only = absurd h

  no_truth : (v : Value) (c : Cause) → truth_of v ≡ Err c → c ≡ IllKinded
  no_truth (Truth b) c is = absurd (cc is)
  no_truth _ c is = cc is

  no_members : (v : Value) (c : Cause) → members_of v ≡ Err c → c ≡ IllKinded
  no_members (Set vs) c is = absurd (cc is)
  no_members _ c is = cc is

  pub condition_blamed : (e : Expression) → IsToBlame s (condition_culprit types e) (result_err (condition types e))
  condition_blamed e = last_misfit (value types e) truth_of (culprit types e) (culprit_blamed s e) no_truth

  pub members_blamed : (e : Expression) → IsToBlame s (members_culprit types e) (result_err (elements types e))
  members_blamed e = last_misfit (value types e) members_of (culprit types e) (culprit_blamed s e) no_members

  -- what is to blame over the members, where there are such
  pub over_members : {Y : Type 0} (e : Expression) (f : List Value → Result Y Cause) (look : List Value → Option Culprit) →
      ((vs : List Value) → IsToBlame s (look vs) (result_err (f vs))) → IsToBlame s (option_or (members_culprit types e) (look (members types e))) (result_err (elements types e and_then f))
  over_members e f look blamed = by (elements types e) (members_culprit types e) (members_blamed e)
    where
      by : (r : Result (List Value) Cause) (o : Option Culprit) → IsToBlame s o (result_err r) → IsToBlame s (option_or o (look (listed r))) (result_err (r and_then f))
      by (Ok vs) None h = blamed vs
      by (Ok vs) (Some k) h = absurd h
      by (Err c) (Some k) h = h
      by (Err c) None h = absurd h

  -- ---- fields

  -- what is to blame over the field sets of a channel
  over_channel : {Y : Type 0} (c : ℕ) (look : List (List Value) → Option Culprit) (f : List (List Value) → Result Y Cause) →
      ((all : List (List Value)) → slice_get s.channels c ≡ Some all → IsToBlame s (look all) (result_err (f all))) →
      IsToBlame s (over_sets (field_sets s c) look) (result_err (field_sets s c and_then f))
  over_channel c look f blamed = by (slice_get s.channels c) refl
    where
      by : (o : Option (List (List Value))) → slice_get s.channels c ≡ o → IsToBlame s (over_sets (ok_or o IllKinded) look) (result_err (ok_or o IllKinded and_then f))
      by (Some all) at = blamed all at
      by None at = refl

  pub fields_blamed : (c : ℕ) (all : List (List Value)) → slice_get s.channels c ≡ Some all → (i : ℕ) (bs : Bindings) (fs : List Field) (sets : List (List Value)) → AreFrom s i all sets →
      IsToBlame s (fields_culprit types c i bs fs sets) (result_err (communications types bs fs sets))
  fields_blamed c all own i bs [] [] from = tt
  fields_blamed c all own i bs [] (set ∷ sets) from = refl
  fields_blamed c all own i bs (Given e ∷ fs) [] from = refl
  fields_blamed c all own i bs (Input n ∷ fs) [] from = refl
  fields_blamed c all own i bs (InputFrom n e ∷ fs) [] from = refl
  fields_blamed c all own i bs (Given e ∷ fs) (set ∷ sets) from =
      let f = put_expression bs e in
      let rest = fields_culprit types c (suc i) bs fs sets in
      let P : Option Culprit → Type 0 = λ o. IsToBlame s o (result_err (communications types bs (Given e ∷ fs) (set ∷ sets))) in
      subst P (sym (or_or (culprit types f) (outside (OfChannel c) i set (value types f)) (option_or rest None)))
      (field_blamed s (OfChannel c) i all set (value types f) _ (culprit types f) (option_or rest None) own (first_from s i all set sets from) (culprit_blamed s f)
      (λ v. blamed_alone s rest _ (blamed_map s (communications types bs fs sets) _ rest (fields_blamed c all own (suc i) bs fs sets (rest_from s i all set sets from)))))
  fields_blamed c all own i bs (Input n ∷ fs) (set ∷ sets) from =
      let look = λ (ds : Bindings). fields_culprit types c (suc i) ds fs sets in
      let P : Option Culprit → Type 0 = λ o. IsToBlame s o (result_err (communications types bs (Input n ∷ fs) (set ∷ sets))) in
      subst P (sym (first_mapped look (λ v. bind n v bs) set))
      (each_list_blamed s _ (λ v. look (bind n v bs))
      (λ v. blamed_map s (communications types (bind n v bs) fs sets) _ (look (bind n v bs))
      (fields_blamed c all own (suc i) (bind n v bs) fs sets (rest_from s i all set sets from))) set)
  fields_blamed c all own i bs (InputFrom n e ∷ fs) (set ∷ sets) from =
      let look = λ (ds : Bindings). fields_culprit types c (suc i) ds fs sets in
      let chosen = λ (vs : List Value). filter (λ v. has_value set v) vs in
      let P : Option Culprit → Type 0 = λ o. IsToBlame s o (result_err (communications types bs (InputFrom n e ∷ fs) (set ∷ sets))) in
      subst P (ap (option_or (members_culprit types (put_expression bs e))) (sym (first_mapped look (λ v. bind n v bs) (chosen (members types (put_expression bs e))))))
      (over_members (put_expression bs e) _ (λ vs. first_found (λ v. look (bind n v bs)) (chosen vs))
      (λ vs. each_list_blamed s _ (λ v. look (bind n v bs))
      (λ v. blamed_map s (communications types (bind n v bs) fs sets) _ (look (bind n v bs))
      (fields_blamed c all own (suc i) (bind n v bs) fs sets (rest_from s i all set sets from))) (chosen vs)))

  pub prefix_blamed : (c : ℕ) (fs : List Field) → IsToBlame s (prefix_culprit s c fs) (result_err (prefix_communications s c fs))
  prefix_blamed c fs =
      over_channel c (λ sets. fields_culprit types c 0 [] fs sets) (λ sets. communications types [] fs sets) (λ all at. fields_blamed c all at 0 [] fs all (all_from s all))

  -- ---- events

  pub beginning_blamed : (e : EventExpression) → IsToBlame s (beginning_culprit s e) (result_err (beginning_of s e))
  beginning_blamed e =
      over_channel e.channel (λ sets. given_culprit types (OfChannel e.channel) 0 e.fields sets) _
      (λ all at. blamed_map s (given_values types e.fields all) _ (given_culprit types (OfChannel e.channel) 0 e.fields all)
      (given_blamed s (OfChannel e.channel) all at 0 e.fields all (all_from s all)))

  -- there are as many values as expressions
  given_count : (es : Expressions) (sets : List (List Value)) (vs : List Value) → given_values types es sets ≡ Ok vs → length vs ≡ length (expressions_list es)
  given_count no_expressions sets vs is = let none : [] ≡ vs = cc is in ap length (sym none)
  given_count (expression_and e es) [] vs is = absurd (cc is)
  given_count (expression_and e es) (set ∷ sets) vs is = by (value types e) (given_values types es sets) refl is (given_count es sets)
    where
      within : (v : Value) (b : Bool) (r : Result (List Value) Cause) → given_values types es sets ≡ r →
          ◌≡◌ {A = Result (List Value) Cause} (cond b (Ok v) (Err OutOfRange) and_then λ w. r and_then λ ws. Ok (v ∷ ws)) (Ok vs) →
          ((ws : List Value) → given_values types es sets ≡ Ok ws → length ws ≡ length (expressions_list es)) → length vs ≡ suc (length (expressions_list es))
      within v true (Ok ws) there so rest = let one : v ∷ ws ≡ vs = cc so in ap length (sym one) ∙ ap suc (rest ws there)
      within v true (Err c) there so rest = absurd (cc so)
      within v false r there so rest = absurd (cc so)

      by : (q : Result Value Cause) (r : Result (List Value) Cause) → given_values types es sets ≡ r →
          (q and_then λ v. in_field_set set v and_then λ w. r and_then λ ws. Ok (v ∷ ws)) ≡ Ok vs →
          ((ws : List Value) → given_values types es sets ≡ Ok ws → length ws ≡ length (expressions_list es)) → length vs ≡ suc (length (expressions_list es))
      by (Ok v) r there so rest = within v (has_value set v) r there so rest
      by (Err c) r there so rest = absurd (cc so)

  over_both : (r : Result (List (List Value)) Cause) (f g : List (List Value) → Option Culprit) →
      option_or (over_sets r f) (over_sets r g) ≡ over_sets r (λ sets. option_or (f sets) (g sets))
  over_both (Ok sets) f g = refl
  over_both (Err c) f g = refl

  count_blamed : {Y : Type 0} (e : EventExpression) (all : List (List Value)) (vs : List Value) (x : Y) → length vs ≡ length (expressions_list e.fields) →
      IsToBlame s (count_misfit e all) (result_err (cond (nat_eq (length vs) (length all)) (Ok x) (Err IllKinded)))
  count_blamed {Y} e all vs x same =
      let P : ℕ → Type 0 = λ n. IsToBlame s (count_misfit e all) (result_err {E = Cause} (cond (nat_eq n (length all)) (Ok x) (Err IllKinded))) in
      subst P (sym same) (by (nat_eq (length (expressions_list e.fields)) (length all)))
    where
      by : (b : Bool) → IsToBlame s (cond b None (Some Misfit)) (result_err {E = Cause} (cond b (Ok x) (Err IllKinded)))
      by true = tt
      by false = refl

  pub event_blamed : (e : EventExpression) → IsToBlame s (event_culprit s e) (result_err (event_of s e))
  event_blamed e =
      let given = λ (sets : List (List Value)). given_culprit types (OfChannel e.channel) 0 e.fields sets in
      let P : Option Culprit → Type 0 = λ o. IsToBlame s o (result_err (event_of s e)) in
      subst P (sym (over_both (field_sets s e.channel) given (count_misfit e)))
      (over_channel e.channel (λ sets. option_or (given sets) (count_misfit e sets)) _
      (λ all at. blamed_then s (given_values types e.fields all) _ (given all) (count_misfit e all)
      (given_blamed s (OfChannel e.channel) all at 0 e.fields all (all_from s all)) (λ vs is. count_blamed e all vs _ (given_count e.fields all vs is))))

  pub event_set_blamed : (a : EventSet) → IsToBlame s (event_set_culprit s a) (result_err (event_test s a))
  event_set_blamed (Enumeration es) = blamed_map s _ _ (first_found (event_culprit s) es) (each_blamed s (event_of s) (event_culprit s) event_blamed es)
  event_set_blamed (Productions es) = blamed_map s _ _ (first_found (beginning_culprit s) es) (each_blamed s (beginning_of s) (beginning_culprit s) beginning_blamed es)
  event_set_blamed (EventUnion a b) =
      blamed_then s (event_test s a) _ (event_set_culprit s a) (event_set_culprit s b) (event_set_blamed a) (λ f is. blamed_map s (event_test s b) _ (event_set_culprit s b) (event_set_blamed b))
  event_set_blamed (EventIntersection a b) =
      blamed_then s (event_test s a) _ (event_set_culprit s a) (event_set_culprit s b) (event_set_blamed a) (λ f is. blamed_map s (event_test s b) _ (event_set_culprit s b) (event_set_blamed b))
  event_set_blamed (EventDifference a b) =
      blamed_then s (event_test s a) _ (event_set_culprit s a) (event_set_culprit s b) (event_set_blamed a) (λ f is. blamed_map s (event_test s b) _ (event_set_culprit s b) (event_set_blamed b))

  -- ---- renamings

  no_channels : (c d : ℕ) (x : Cause) → channel_images s c d ≡ Err x → x ≡ IllKinded
  no_channels c d x is = by (slice_get s.channels c) (slice_get s.channels d) is
    where
      alike : (t : List (List Value)) (b : Bool) → ◌≡◌ {A = Result (Event → List Event) Cause} (cond b (Ok (λ e. cond (nat_eq e.channel c) (record { channel = d; fields = e.fields } ∷ []) [])) (Err IllKinded)) (Err x) → x ≡ IllKinded
      alike t true so = absurd (cc so)
      alike t false so = sym (cc so)

      by : (o p : Option (List (List Value))) →
          ◌≡◌ {A = Result (Event → List Event) Cause} (ok_or o IllKinded and_then λ t. ok_or p IllKinded and_then λ u. cond (same_sets t u) (Ok (λ e. cond (nat_eq e.channel c) (record { channel = d; fields = e.fields } ∷ []) [])) (Err IllKinded)) (Err x) → x ≡ IllKinded
      by None p so = sym (cc so)
      by (Some t) None so = sym (cc so)
      by (Some t) (Some u) so = alike t (same_sets t u) so

  pub pair_blamed : (r : RenamingPair) → IsToBlame s (pair_culprit s r) (result_err (pair_images s r))
  pair_blamed r = by (is_bare r.from && is_bare r.to)
    where
      by : (b : Bool) → IsToBlame s (elim b [ true ↦ misfit (channel_images s r.from.channel r.to.channel) | false ↦ option_or (event_culprit s r.from) (event_culprit s r.to) ])
          (result_err (elim b [ true ↦ channel_images s r.from.channel r.to.channel | false ↦ event_images s r.from r.to ]))
      by true = misfit_blamed s (channel_images s r.from.channel r.to.channel) (no_channels r.from.channel r.to.channel)
      by false = blamed_then s (event_of s r.from) _ (event_culprit s r.from) (event_culprit s r.to) (event_blamed r.from) (λ f is. blamed_map s (event_of s r.to) _ (event_culprit s r.to) (event_blamed r.to))

  pub pairs_blamed : (rs : List RenamingPair) → IsToBlame s (first_found (pair_culprit s) rs) (result_err (renaming s rs))
  pairs_blamed [] = tt
  pairs_blamed (r ∷ rs) =
      blamed_then s (pair_images s r) _ (pair_culprit s r) (first_found (pair_culprit s) rs) (pair_blamed r) (λ f is. blamed_map s (renaming s rs) _ (first_found (pair_culprit s) rs) (pairs_blamed rs))
