-- Pairs of renamings are resolved part by part.
use denote.RattleType
use mir.Syntax
use lib.Pointwise.{pointwise}
use Rattle.std.specs.declared.alloc.Allocator as allocator
use Rattle.std.specs.declared.vec.Vec.{Vec}
use Rattle.std.specs.Prelude.{cond, not, slice_get, option_and_then, ◌&&◌, ◌||◌, ◌==◌, ◌↔◌, IsTrue, nat_eq, vec_len}
use Rattle.std.proofs.Math.Dec.{eqb-suc-zero}
use Rattle.std.proofs.lemmas.Bool.{eqb-true, eqb-false}
use Rattle.std.proofs.lemmas.List.{length-map}
use Rattle.std.proofs.Common.{◌≡◌, ◌≢◌, ℕ, Bool, true, false, List, [], ◌∷◌, ◌++◌, length, map, Option, Some, None, Result, Ok, Err, refl, sym, ap, ap₂, ◌∙◌, subst}
use Rattle.theory_syntax.specs.Expression as pure
use Rattle.theory_syntax.specs.Process as process
use Rattle.theory_syntax.specs.Value as value
use Rattle.theory_syntax.specs.Value.{Value}
use Rattle.theory_text.specs.Raw.{RawName, RawEvent, RawExpressions, no_raw_expressions, raw_expression_and, RawPair}
use Rattle.theory_checking.specs.Names.{ChannelName, Environment, Declared, meaning}
use Rattle.theory_checking.specs.Resolving as resolving
use Rattle.theory_checking.specs.Resolving.{of_two}
use Rattle.theory_checking.specs.Rules.{field_count, suits, unknown, wrong_class, left_fields, right_fields, other_sets}
use Rattle.theory_checking.specs.Sites.{AsBareLeft, AsBareRight, Site, Used, has_no_fields, in_event, in_pair}
use Rattle.theory_checking.specs.Walks.{AllFine, IsFine, IsStoppedAt}
use Rattle.theory_checking.proofs.SingleSites.{left_stops, right_counts_stop, right_sets_stop}
use Rattle.theory_checking.proofs.Walking.{fine_both}
use Rattle.csp_parse.specs.declared.expressions.Expression as raw
use Rattle.csp_parse.specs.declared.events.Event.{Event}
use Rattle.csp_parse.specs.Events.{event_of}
use Rattle.csp_parse.specs.Expressions.{expressions_of}
use Rattle.csp_parse.specs.Names.{name_of}
use Rattle.csp_value.specs.declared.name.ChannelId.{ChannelId}
use Rattle.csp_value.specs.declared.field_set.FieldSet.{FieldSet}
use Rattle.csp_value.specs.contracts.field_set.FieldSetPartialEq.TheImpl as field_impl
use Rattle.csp_value.specs.Value.{members_of}
use Rattle.csp_value.proofs.Equality.{set_tells}
use Rattle.csp_value.proofs.Forms.{unlisted}
use Rattle.csp_value.proofs.Sameness.{Tells, lists_tell}
use Rattle.csp_expression.specs.declared.expr.Expr.{Expr}
use Rattle.csp_expression.specs.Expression as terms
use Rattle.csp_events.specs.declared.event_expression.EventExpression.{EventExpression}
use Rattle.csp_events.specs.declared.renaming_pair.RenamingPair.{RenamingPair}
use Rattle.csp_events.specs.Events.{event_expression_of, renaming_pair_of}
use Rattle.csp_value.specs.Fields.{field_values}
use Rattle.csp_names.specs.declared.bound_names.BoundNames.{BoundNames}
use Rattle.csp_names.specs.declared.refusals.KindFault.TheVariants as fault
use Rattle.csp_names.specs.declared.refusals.Refused.{Refused}
use Rattle.csp_names.specs.declared.scope.Scope.{Scope}
use Rattle.csp_names.specs.Names.{fields_agree}
use Rattle.csp_names.specs.Refusals.{fault_of}
use Rattle.csp_names.specs.Scopes.{AreUnlike, known_sets, KnowsScript, sets_at}
use Rattle.csp_names.specs.Walks.{bare_pair, Resolves, ResolvesBarePair, ResolvesBareRight, ResolvesChannel, ResolvesEvent, ResolvesPair, Stops}
use Rattle.csp_names.proofs.Resolves.{both_made, first_stops, second_stops}
use Rattle.csp_names.proofs.Walking.{stops_behind, stops_first}

-- ---- how many fields two channels have

not_both : {b : Bool} → b ≡ false → b ≡ true → ⊥
not_both e f = let both : false ≡ true = sym e ∙ f in cc both

missing : {X : Type 0} {o : Option X} {x : X} → o ≡ None → o ≡ Some x → ⊥
missing e f = let both = sym e ∙ f in cc both

same_there : {X : Type 0} {o : Option X} {x y : X} → o ≡ Some x → o ≡ Some y → x ≡ y
same_there e f = let both = sym e ∙ f in cc both

-- where they agree, the first has none or the second as many
agreeing : (o other : Option ℕ) (p : ℕ) → fields_agree o other ≡ true → o ≡ Some p → p ≢ 0 → other ≢ Some p → ⊥
agreeing None other p e is some unlike = cc is
agreeing (Some q) None p e is some unlike = let same : q ≡ p = cc is in some (sym same ∙ eqb-true q 0 e)
agreeing (Some q) (Some r) p e is some unlike = let same : q ≡ p = cc is in go (nat_eq q 0) refl e same
  where
    go : (b : Bool) → nat_eq q 0 ≡ b → (b || nat_eq r q) ≡ true → q ≡ p → ⊥
    go true none e same = some (sym same ∙ eqb-true q 0 none)
    go false none e same = unlike (ap Some (eqb-true r q e ∙ same))

-- where they do not, the first has some, and the second another number
pub record Disagree (o other : Option ℕ) : Type 0 where
  pub count : ℕ
  pub is : o ≡ Some count
  pub some : count ≢ 0
  pub unlike : other ≢ Some count

disagreeing : (o other : Option ℕ) → fields_agree o other ≡ false → Disagree o other
disagreeing None other e = absurd (cc e)
disagreeing (Some q) None e = record { count = q; is = refl; some = eqb-false q 0 e; unlike = λ f. cc f }
disagreeing (Some q) (Some r) e = go (nat_eq q 0) refl e
  where
    go : (b : Bool) → nat_eq q 0 ≡ b → (b || nat_eq r q) ≡ false → Disagree (Some q) (Some r)
    go true none f = absurd (cc f)
    go false none f = record { count = q; is = refl; some = eqb-false q 0 none; unlike = λ g. let same : r ≡ q = cc g in eqb-false r q f same }

-- ---- the left channel of two bare ones

module _ (env : Environment) (n other : RawName) (c : ℕ) (is : meaning env n ≡ Some (Declared ChannelName c)) (agrees : Bool) (counted : agrees ≡ fields_agree (field_count env n) (field_count env other)) where
  pub left_agrees : agrees ≡ true → IsFine (Used env (AsBareLeft other) n)
  left_agrees e f (unknown h) = missing h is
  left_agrees e f (wrong_class h r) = not_both r (ap (suits (AsBareLeft other)) (sym (same_there is h)))
  left_agrees e f (left_fields {p = p} h r q) = agreeing (field_count env n) (field_count env other) p (sym counted ∙ e) h r q

  pub left_disagrees : agrees ≡ false → IsStoppedAt (Used env (AsBareLeft other) n ∷ []) (fault_of fault.WrongCount) n.place
  left_disagrees e = let d = disagreeing (field_count env n) (field_count env other) (sym counted ∙ e) in left_stops env n other (Declared ChannelName c) d.count is refl d.is d.some d.unlike

  pub right_disagrees : agrees ≡ false → IsStoppedAt (Used env (AsBareRight other) n ∷ []) (fault_of fault.WrongCount) n.place
  right_disagrees e = let d = disagreeing (field_count env n) (field_count env other) (sym counted ∙ e) in right_counts_stop env n other (Declared ChannelName c) d.count is refl d.is d.some d.unlike

  -- ---- the right channel, with what is known of the field sets of both

  module _ {A : Type 0} (scope : Scope A) (knows : KnowsScript scope env.declarations) (d : ℕ) (left_is : resolving.as_channel (meaning env other) ≡ Some d) where
    right_is : resolving.as_channel (meaning env n) ≡ Some c
    right_is = ap resolving.as_channel is

    known_at : (i : ℕ) (sets : List (List Value)) → slice_get (map known_sets scope.field_sets.now) i ≡ Some (Some sets) → sets_at scope i ≡ Some sets
    known_at i sets e = ap (option_and_then (λ o. o)) e

    pub right_agrees : agrees ≡ true → ¬ (AreUnlike (sets_at scope d) (sets_at scope c)) → IsFine (Used env (AsBareRight other) n)
    right_agrees e alike f (unknown h) = missing h is
    right_agrees e alike f (wrong_class h r) = not_both r (ap (suits (AsBareRight other)) (sym (same_there is h)))
    right_agrees e alike f (right_fields {p = p} h r q) = agreeing (field_count env n) (field_count env other) p (sym counted ∙ e) h r q
    right_agrees e alike f (other_sets {c = i} {d = j} {s = vs} {t = ws} i_is j_is has_left has_right like unlike) =
        let at_left : sets_at scope d ≡ Some vs = ap (sets_at scope) (same_there left_is i_is) ∙ known_at i vs ((knows.field_sets i vs).1 has_left) in
        let at_right : sets_at scope c ≡ Some ws = ap (sets_at scope) (same_there right_is j_is) ∙ known_at j ws ((knows.field_sets j ws).1 has_right) in
        let P : Option (List (List Value)) → Type 0 = λ o. AreUnlike o (sets_at scope c) in
        let Q : Option (List (List Value)) → Type 0 = λ o. AreUnlike (Some vs) o in
        alike (subst P (sym at_left) (subst Q (sym at_right) (like, unlike)))

    pub right_unlike : AreUnlike (sets_at scope d) (sets_at scope c) → IsStoppedAt (Used env (AsBareRight other) n ∷ []) (fault_of fault.WrongKind) n.place
    right_unlike h = go (slice_get (map known_sets scope.field_sets.now) d) (slice_get (map known_sets scope.field_sets.now) c) refl refl h
      where
        go : (o p : Option (Option (List (List Value)))) → slice_get (map known_sets scope.field_sets.now) d ≡ o → slice_get (map known_sets scope.field_sets.now) c ≡ p → AreUnlike (option_and_then (λ x. x) o) (option_and_then (λ x. x) p) → IsStoppedAt (Used env (AsBareRight other) n ∷ []) (fault_of fault.WrongKind) n.place
        go (Some (Some vs)) (Some (Some ws)) e f both = right_sets_stop env n other (Declared ChannelName c) d c vs ws is left_is right_is ((knows.field_sets d vs).0 e) ((knows.field_sets c ws).0 f) both.0 both.1
        go (Some (Some vs)) (Some None) e f both = absurd both
        go (Some (Some vs)) None e f both = absurd both
        go (Some None) p e f both = absurd both
        go None p e f both = absurd both

-- ---- a pair of two bare channels

module _ {A : Type 0} (scope : Scope A) (b : BoundNames A) (m n : RawName) where
  abbrev left_site : Environment → List Site
  left_site env = Used env (AsBareLeft n) m ∷ []

  abbrev right_site : Environment → List Site
  right_site env = Used env (AsBareRight m) n ∷ []

  pub bare_left_stops : (f : Refused) → ResolvesChannel scope b (AsBareLeft n) m (Err f) → ResolvesBarePair {A = A} scope b m n (Err f)
  bare_left_stops f h env stands knows = stops_first (left_site env) (right_site env) f (h env stands knows)

  module _ (c : ChannelId) (left : ResolvesChannel scope b (AsBareLeft n) m (Ok c)) where
    pub bare_right_stops : (f : Refused) → ResolvesBareRight scope b c m n (Err f) → ResolvesBarePair {A = A} scope b m n (Err f)
    bare_right_stops f h env stands knows =
        let first = left env stands knows in
        stops_behind (left_site env) (right_site env) f first.0 (h env stands knows first.1)

    pub bare_pair_made : (d : ChannelId) (v w : Vec (Expr A) A) → ResolvesBareRight scope b c m n (Ok d) → v.items ≡ [] → w.items ≡ [] →
        ResolvesBarePair scope b m n (Ok (record { from = record { channel = c; fields = v }; to = record { channel = d; fields = w } }))
    bare_pair_made d v w h none nor env stands knows =
        let first = left env stands knows in
        let second = h env stands knows first.1 in
        let as_terms : List (Expr A) → List (Expr A) → process.RenamingPair =
        λ xs ys. record { from = record { channel = c.0; fields = pure.to_expressions (terms.expressions_of xs) }; to = record { channel = d.0; fields = pure.to_expressions (terms.expressions_of ys) } } in
        (fine_both (left_site env) (right_site env) first.0 second.0, ap₂ (of_two bare_pair) first.1 second.1 ∙ ap Some (sym (ap₂ as_terms none nor)))

-- ---- a pair

abbrev pub event_with : RawName → RawExpressions → RawEvent
event_with n es = record { channel = n; fields = es }

abbrev pub pair_with : RawName → RawExpressions → RawName → RawExpressions → RawPair
pair_with m es n fs = record { from = event_with m es; to = event_with n fs }

-- an event without fields is bare
pub bare_written : {A : Type 0} (e : Event A) → (vec_len e.fields == 0) ≡ has_no_fields (event_of e)
bare_written {A} e = ap (λ k. k == 0) e.fields.ok.0 ∙ by_list e.fields.items
  where
    by_list : (es : List (raw.Expression A)) → (length es == 0) ≡ has_no_fields (event_with (name_of e.channel) (expressions_of es))
    by_list [] = refl
    by_list (x ∷ xs) = eqb-suc-zero (length xs)

none_there : (n : RawName) (es : RawExpressions) → has_no_fields (event_with n es) ≡ true → es ≡ no_raw_expressions
none_there n no_raw_expressions e = refl
none_there n (raw_expression_and x xs) e = absurd (cc e)

bare_meaning : (o p : Option ℕ) → of_two (λ c d. record { from = c; to = d }) (of_two (λ c es. record { channel = c; fields = es }) o (Some pure.no_expressions)) (of_two (λ c es. record { channel = c; fields = es }) p (Some pure.no_expressions)) ≡ of_two bare_pair o p
bare_meaning None p = refl
bare_meaning (Some c) None = refl
bare_meaning (Some c) (Some d) = refl

module _ {A : Type 0} (scope : Scope A) (b : BoundNames A) (m n : RawName) (es fs : RawExpressions) where
  pub bare_resolved : (r : Result (RenamingPair A) Refused) → has_no_fields (event_with m es) ≡ true → has_no_fields (event_with n fs) ≡ true → ResolvesBarePair scope b m n r → ResolvesPair scope b (pair_with m es n fs) r
  bare_resolved r none nor h =
      let P : RawExpressions → Type 0 = λ xs. ResolvesPair scope b (pair_with m xs n fs) r in
      let Q : RawExpressions → Type 0 = λ xs. ResolvesPair scope b (pair_with m no_raw_expressions n xs) r in
      subst P (sym (none_there m es none)) (subst Q (sym (none_there n fs nor)) (go r h))
    where
      go : (r : Result (RenamingPair A) Refused) → ResolvesBarePair scope b m n r → ResolvesPair scope b (pair_with m no_raw_expressions n no_raw_expressions) r
      go (Ok t) h env stands knows = let both = h env stands knows in (both.0, bare_meaning (resolving.as_channel (meaning env m)) (resolving.as_channel (meaning env n)) ∙ both.1)
      go (Err f) h env stands knows = h env stands knows

  module _ (written : (has_no_fields (event_with m es) && has_no_fields (event_with n fs)) ≡ false) where
    abbrev from_sites : Environment → List Site
    from_sites env = in_event env (event_with m es)

    abbrev to_sites : Environment → List Site
    to_sites env = in_event env (event_with n fs)

    abbrev from_means : Environment → Option process.EventExpression
    from_means env = resolving.event_of env (event_with m es)

    abbrev to_means : Environment → Option process.EventExpression
    to_means env = resolving.event_of env (event_with n fs)

    abbrev pair_means : Environment → Option process.RenamingPair
    pair_means env = resolving.pair_of env (pair_with m es n fs)

    sites_are : (env : Environment) → in_pair env (pair_with m es n fs) ≡ from_sites env ++ to_sites env
    sites_are env = ap (λ e. cond e (Used env (AsBareLeft n) m ∷ Used env (AsBareRight m) n ∷ []) (from_sites env ++ to_sites env)) written

    as_events : (r : Result (RenamingPair A) Refused) → Resolves scope b (λ env. from_sites env ++ to_sites env) pair_means renaming_pair_of r → ResolvesPair scope b (pair_with m es n fs) r
    as_events (Ok t) h env stands knows = let both = h env stands knows in let P : List Site → Type 0 = AllFine in (subst P (sym (sites_are env)) both.0, both.1)
    as_events (Err f) h env stands knows = let P : List Site → Type 0 = λ xs. Stops xs f in subst P (sym (sites_are env)) (h env stands knows)

    pub from_stops : (f : Refused) → ResolvesEvent {A = A} scope b (event_with m es) (Err f) → ResolvesPair {A = A} scope b (pair_with m es n fs) (Err f)
    from_stops f h = as_events (Err f) (first_stops scope b from_sites to_sites from_means to_means (event_expression_of {A = A}) (renaming_pair_of {A = A}) pair_means f h)

    pub to_stops : (from : EventExpression A) (f : Refused) → ResolvesEvent scope b (event_with m es) (Ok from) → ResolvesEvent {A = A} scope b (event_with n fs) (Err f) → ResolvesPair {A = A} scope b (pair_with m es n fs) (Err f)
    to_stops from f h k = as_events (Err f) (second_stops scope b from_sites to_sites from_means to_means (event_expression_of {A = A}) (event_expression_of {A = A}) (renaming_pair_of {A = A}) pair_means from f h k)

    pub pair_made : (from to : EventExpression A) → ResolvesEvent scope b (event_with m es) (Ok from) → ResolvesEvent scope b (event_with n fs) (Ok to) → ResolvesPair scope b (pair_with m es n fs) (Ok (record { from = from; to = to }))
    pair_made from to h k =
        as_events (Ok (record { from = from; to = to }))
        (both_made scope b from_sites to_sites from_means to_means (event_expression_of {A = A}) (event_expression_of {A = A}) (renaming_pair_of {A = A}) (λ x y. record { from = x; to = y }) from to (Ok (record { from = from; to = to })) h k refl tt)

-- ---- field sets are compared as those that they stand for

module _ (R : RattleType.RattleType) (A : allocator.Ghosts R.Denot) (ad dd : Syntax.Dict) where
  abbrev field_eq : FieldSet R.Denot → FieldSet R.Denot → Bool
  field_eq = (field_impl.ghosts R A ad dd).eq

  field_tells : Tells field_eq (field_values {A = R.Denot})
  field_tells = record {
    sound = λ x y e. ap value.values_list ((set_tells R A ad dd).sound x.values y.values e);
    complete = λ x y e. (set_tells R A ad dd).complete x.values y.values (sym (unlisted (members_of x.values)) ∙ ap value.to_values e ∙ unlisted (members_of y.values));
  }

  pub unlike_told : (xs ys : List (FieldSet R.Denot)) (r : Bool) → r ≡ not (pointwise field_eq xs ys) → length xs ≡ length ys → IsTrue r ↔ AreUnlike (Some (map field_values xs)) (Some (map field_values ys))
  unlike_told xs ys r is like = go (pointwise field_eq xs ys) refl is
    where
      told : Tells (pointwise field_eq) (map field_values)
      told = lists_tell field_eq field_values field_tells

      as_many : length (map field_values xs) ≡ length (map field_values ys)
      as_many = length-map xs field_values ∙ like ∙ sym (length-map ys field_values)

      go : (b : Bool) → pointwise field_eq xs ys ≡ b → r ≡ not b → IsTrue r ↔ AreUnlike (Some (map field_values xs)) (Some (map field_values ys))
      go true alike is = (λ e. absurd (not_both is e), λ h. absurd (h.1 (told.sound xs ys alike)))
      go false unlike is = (λ e. (as_many, λ same. not_both unlike (told.complete xs ys same)), λ h. is)
