-- A term does no event but those of the script.
use Rattle.std.proofs.Common.{◌≡◌, ℕ, nat_eq, Bool, true, false, ◌||◌, ◌&&◌, cond, List, [], ◌∷◌, filter, length, Option, Some, None, Ok, Err, Result, ok_or, slice_get, refl, sym, ap, ap₂, subst, ◌∙◌, Contains}
use Rattle.std.specs.Prelude.{⊤, IsTrue}
use Rattle.std.specs.List.{AllByRecursion}
use Rattle.std.specs.Cmp.Lexicographic.{slice_cmp}
use Rattle.std.specs.Ordering.{is_eq}
use Rattle.std.specs.declared.cmp.Ordering.{Ordering}
use Rattle.std.specs.declared.cmp.Ordering.TheVariants.{Equal}
use Rattle.std.proofs.lemmas.Bool.{eqb-true}
use Rattle.theory_syntax.specs.Value.{Value, Event, Action, Tau, Tick, Ev, event_eq, has_value, value_cmp, value_eq}
use Rattle.theory_syntax.specs.Expression.{Expressions, no_expressions, expression_and}
use Rattle.theory_syntax.specs.Types.{Types}
use Rattle.theory_syntax.specs.Process.{Field, Given, Input, InputFrom, EventExpression, RenamingPair, Process, Script}
use Rattle.theory_syntax.proofs.Equalities.{is_eq-Equal, then_first, then_second, value_refl, value_same}
use Rattle.theory_semantics.specs.Meaning.Evaluation.{Cause, IllKinded, OutOfRange, given_values, in_field_set, value}
use Rattle.theory_semantics.specs.Meaning.Events.{Communication, channel_images, communications, elements, event_images, event_of, field_sets, images, images_by, is_bare, or_itself, pair_images, prefix_communications, renaming, same_sets, with_value}
use Rattle.theory_semantics.specs.Meaning.Substitution.{Bindings, bind, put_expression}
use Rattle.theory_semantics.specs.Meaning.Transitions.{RuleStep, skip, prefix, call, guard, if_true, if_false, external_tau_left, external_tau_right, external_left, external_right, internal_left, internal_right, sequential, sequential_tick, interleaving_left, interleaving_right, interleaving_tick_left, interleaving_tick_right, interleaving_tick, interrupt_left, interrupt_tick, interrupt_tau_right, interrupt_right, sliding_tau, sliding_left, sliding_away, generalised_left, generalised_right, generalised_both, generalised_tick_left, generalised_tick_right, generalised_tick, alphabetised_left, alphabetised_right, alphabetised_both, alphabetised_tick_left, alphabetised_tick_right, alphabetised_tick, hiding_tau, hiding_hidden, hiding_event, hiding_tick, renaming_tau, renaming_event, renaming_tick, replicated_external, replicated_internal, replicated_interleaving}
use Rattle.theory_semantics.specs.Kinds.Kind.{InTurn, BeginsInTurn}
use Rattle.theory_shapes.specs.Alphabet.{IsEventOf}
use Rattle.theory_shapes.proofs.Results.{IfValue, all_append, all_made, any_value, one_of_all, value_cond, value_each_list, value_then}

abbrev pub Has : Value → List Value → Type 0
Has v set = IsTrue (has_value set v)

-- ---- members of a set

or_right : (a b : Bool) → b ≡ true → (a || b) ≡ true
or_right true b e = refl
or_right false b e = e

or_left : (a b : Bool) → a ≡ true → (a || b) ≡ true
or_left true b e = refl
or_left false b e = absurd (cc e)

pub own_members : (vs : List Value) → AllByRecursion (λ v. Has v vs) vs
own_members [] = tt
own_members (v ∷ vs) = (or_left (value_eq v v) (has_value vs v) (ap is_eq (value_refl v)), all_made (λ w. Has w vs) (λ w. Has w (v ∷ vs)) (λ w h. or_right (value_eq w v) (has_value vs w) h) vs (own_members vs))

filtered_members : (set vs : List Value) → AllByRecursion (λ v. Has v set) (filter (λ v. has_value set v) vs)
filtered_members set [] = tt
filtered_members set (v ∷ vs) = by_test (has_value set v) refl (filtered_members set vs)
  where
    by_test : (b : Bool) → has_value set v ≡ b → AllByRecursion (λ v. Has v set) (filter (λ v. has_value set v) vs) → AllByRecursion (λ v. Has v set) (cond b (v ∷ filter (λ v. has_value set v) vs) (filter (λ v. has_value set v) vs))
    by_test true e rest = (e, rest)
    by_test false e rest = rest

-- ---- prefixes

abbrev AreIn : List (List Value) → List Communication → Type 0
AreIn sets ms = AllByRecursion (λ m. InTurn Has m.values sets) ms

with_in : (v : Value) (set : List Value) (sets : List (List Value)) (ms : List Communication) → Has v set → AreIn sets ms → AreIn (set ∷ sets) (with_value v ms)
with_in v set sets [] h all = tt
with_in v set sets (m ∷ ms) h all = ((h, all.0), with_in v set sets ms h all.1)

communications_in : (types : Types) (bs : Bindings) (fs : List Field) (sets : List (List Value)) → IfValue (AreIn sets) (communications types bs fs sets)
communications_in types bs [] [] = (tt, tt)
communications_in types bs (Given e ∷ fs) (set ∷ sets) =
    value_then (λ v. ⊤) (AreIn (set ∷ sets)) (value types (put_expression bs e)) _ (any_value (value types (put_expression bs e))) (λ v i.
    value_then (λ w. Has v set) (AreIn (set ∷ sets)) (in_field_set set v) _ (value_cond (λ w. Has v set) (has_value set v) v OutOfRange (λ e. e)) (λ w h.
    value_then (AreIn sets) (AreIn (set ∷ sets)) (communications types bs fs sets) _ (communications_in types bs fs sets) (λ ms all. with_in v set sets ms h all)))
communications_in types bs (Input n ∷ fs) (set ∷ sets) =
    value_each_list (λ v. Has v set) (λ m. InTurn Has m.values (set ∷ sets)) _ set (own_members set) (λ v h.
    value_then (AreIn sets) (AreIn (set ∷ sets)) (communications types (bind n v bs) fs sets) _ (communications_in types (bind n v bs) fs sets) (λ ms all. with_in v set sets ms h all))
communications_in types bs (InputFrom n e ∷ fs) (set ∷ sets) =
    value_then (λ vs. ⊤) (AreIn (set ∷ sets)) (elements types (put_expression bs e)) _ (any_value (elements types (put_expression bs e))) (λ vs i.
    value_each_list (λ v. Has v set) (λ m. InTurn Has m.values (set ∷ sets)) _ (filter (λ v. has_value set v) vs) (filtered_members set vs) (λ v h.
    value_then (AreIn sets) (AreIn (set ∷ sets)) (communications types (bind n v bs) fs sets) _ (communications_in types (bind n v bs) fs sets) (λ ms all. with_in v set sets ms h all)))
communications_in types bs [] (set ∷ sets) = tt
communications_in types bs (Given e ∷ fs) [] = tt
communications_in types bs (Input n ∷ fs) [] = tt
communications_in types bs (InputFrom n e ∷ fs) [] = tt

module _ (script : Script) where
  abbrev pub IsOne : Event → Type 0
  IsOne e = IsEventOf script e

  -- the sets of a channel, which are found there
  abbrev AreSetsOf : ℕ → List (List Value) → Type 0
  AreSetsOf c sets = slice_get script.channels c ≡ Some sets

  sets_found : (c : ℕ) → IfValue (AreSetsOf c) (field_sets script c)
  sets_found c = by_get (slice_get script.channels c) refl
    where
      by_get : (o : Option (List (List Value))) → slice_get script.channels c ≡ o → IfValue (AreSetsOf c) (ok_or o IllKinded)
      by_get (Some sets) e = e
      by_get None e = tt

  prefix_events : (c : ℕ) (fs : List Field) → IfValue (AllByRecursion (λ m. IsOne (record { channel = c; fields = m.values }))) (prefix_communications script c fs)
  prefix_events c fs =
      let P : Communication → Type 0 = λ m. IsOne (record { channel = c; fields = m.values }) in
      value_then (AreSetsOf c) (AllByRecursion P) (field_sets script c) _ (sets_found c) (λ sets is.
      map_all sets is (communications script.types [] fs sets) (communications_in script.types [] fs sets))
    where
      map_all : (sets : List (List Value)) → AreSetsOf c sets → (r : Result (List Communication) Cause) → IfValue (AreIn sets) r → IfValue (AllByRecursion (λ m. IsOne (record { channel = c; fields = m.values }))) r
      map_all sets is (Ok ms) all = all_made (λ m. InTurn Has m.values sets) (λ m. IsOne (record { channel = c; fields = m.values })) (λ m h. (sets, is, h)) ms all
      map_all sets is (Err e) all = tt

  -- ---- renamings

  given_in : (types : Types) (es : Expressions) (sets : List (List Value)) → IfValue (λ vs. BeginsInTurn Has vs sets) (given_values types es sets)
  given_in types no_expressions sets = tt
  given_in types (expression_and e es) [] = tt
  given_in types (expression_and e es) (set ∷ sets) =
      let Q : List Value → Type 0 = λ vs. BeginsInTurn Has vs (set ∷ sets) in
      value_then (λ v. ⊤) Q (value types e) _ (any_value (value types e)) (λ v i.
      value_then (λ w. Has v set) Q (in_field_set set v) _ (value_cond (λ w. Has v set) (has_value set v) v OutOfRange (λ e. e)) (λ w h.
      value_then (λ vs. BeginsInTurn Has vs sets) Q (given_values types es sets) _ (given_in types es sets) (λ vs all. (h, all))))

  all_in : (vs : List Value) (sets : List (List Value)) → length vs ≡ length sets → BeginsInTurn Has vs sets → InTurn Has vs sets
  all_in [] [] long all = tt
  all_in [] (set ∷ sets) long all = absurd (cc long)
  all_in (v ∷ vs) [] long all = all
  all_in (v ∷ vs) (set ∷ sets) long all = (all.0, all_in vs sets (let e : length vs ≡ length sets = cc long in e) all.1)

  pub event_is : (e : EventExpression) → IfValue IsOne (event_of script e)
  event_is e =
      value_then (AreSetsOf e.channel) IsOne (field_sets script e.channel) _ (sets_found e.channel) (λ sets is.
      value_then (λ vs. BeginsInTurn Has vs sets) IsOne (given_values script.types e.fields sets) _ (given_in script.types e.fields sets) (λ vs all.
      value_cond IsOne (nat_eq (length vs) (length sets)) (record { channel = e.channel; fields = vs }) IllKinded (λ same. (sets, is, all_in vs sets (eqb-true (length vs) (length sets) same) all))))

  slice_same : {X : Type 0} (R : X → X → Ordering) → ((x y : X) → R x y ≡ Equal → x ≡ y) → (xs ys : List X) → slice_cmp R xs ys ≡ Equal → xs ≡ ys
  slice_same R exact [] [] e = refl
  slice_same R exact [] (y ∷ ys) e = absurd (cc e)
  slice_same R exact (x ∷ xs) [] e = absurd (cc e)
  slice_same R exact (x ∷ xs) (y ∷ ys) e = ap₂ ◌∷◌ (exact x y (then_first (R x y) (slice_cmp R xs ys) e)) (slice_same R exact xs ys (then_second (R x y) (slice_cmp R xs ys) e))

  sets_same : (s t : List (List Value)) → same_sets s t ≡ true → s ≡ t
  sets_same s t e = slice_same (slice_cmp value_cmp) (slice_same value_cmp value_same) s t (is_eq-Equal (slice_cmp (slice_cmp value_cmp) s t) e)

  -- what is made of an event of the script are such events
  abbrev pub Keeps : (Event → List Event) → Type 0
  Keeps f = (e : Event) → IsOne e → AllByRecursion IsOne (f e)

  pub channel_keeps : (c d : ℕ) → IfValue Keeps (channel_images script c d)
  channel_keeps c d =
      value_then (AreSetsOf c) Keeps (field_sets script c) _ (sets_found c) (λ s s-is.
      value_then (AreSetsOf d) Keeps (field_sets script d) _ (sets_found d) (λ t t-is.
      value_cond Keeps (same_sets s t) (λ e. cond (nat_eq e.channel c) (record { channel = d; fields = e.fields } ∷ []) []) IllKinded (λ same e one. by_channel s s-is t t-is (sets_same s t same) e one (nat_eq e.channel c) refl)))
    where
      by_channel : (s : List (List Value)) → AreSetsOf c s → (t : List (List Value)) → AreSetsOf d t → s ≡ t → (e : Event) → IsOne e → (b : Bool) → nat_eq e.channel c ≡ b → AllByRecursion IsOne (cond b (record { channel = d; fields = e.fields } ∷ []) [])
      by_channel s s-is t t-is same e one false test = tt
      by_channel s s-is t t-is same e one true test =
          let at : e.channel ≡ c = eqb-true e.channel c test in
          let found : Some one.0 ≡ Some s = sym one.1 ∙ ap (slice_get script.channels) at ∙ s-is in
          let is : one.0 ≡ t = (let f : one.0 ≡ s = cc found in f) ∙ same in
          ((t, t-is, subst (λ (sets : List (List Value)). InTurn Has e.fields sets) is one.2), tt)

  event_keeps : (c d : EventExpression) → IfValue Keeps (event_images script c d)
  event_keeps c d =
      value_then (λ f. ⊤) Keeps (event_of script c) _ (any_value (event_of script c)) (λ f i.
      value_then IsOne Keeps (event_of script d) _ (event_is d) (λ g is e one. by_test g is (event_eq e f)))
    where
      by_test : (g : Event) → IsOne g → (b : Bool) → AllByRecursion IsOne (cond b (g ∷ []) [])
      by_test g is true = (is, tt)
      by_test g is false = tt

  pair_keeps : (r : RenamingPair) → IfValue Keeps (pair_images script r)
  pair_keeps r = by_form (is_bare r.from && is_bare r.to)
    where
      by_form : (b : Bool) → IfValue Keeps (elim b [ true ↦ channel_images script r.from.channel r.to.channel | false ↦ event_images script r.from r.to ])
      by_form true = channel_keeps r.from.channel r.to.channel
      by_form false = event_keeps r.from r.to

  renaming_keeps : (rs : List RenamingPair) → IfValue Keeps (renaming script rs)
  renaming_keeps [] = λ e one. tt
  renaming_keeps (r ∷ rs) =
      value_then Keeps Keeps (pair_images script r) _ (pair_keeps r) (λ f one.
      value_then Keeps Keeps (renaming script rs) _ (renaming_keeps rs) (λ g rest e is. all_append IsOne (f e) (g e) (one e is) (rest e is)))

  itself_or : (e : Event) (fs : List Event) → IsOne e → AllByRecursion IsOne fs → AllByRecursion IsOne (or_itself e fs)
  itself_or e [] one all = (one, tt)
  itself_or e (f ∷ fs) one all = all

  images_keep : (rs : List RenamingPair) (e : Event) → IsOne e → AllByRecursion IsOne (images script rs e)
  images_keep rs e one = by_renaming (renaming script rs) (renaming_keeps rs)
    where
      by_renaming : (r : Result (Event → List Event) Cause) → IfValue Keeps r → AllByRecursion IsOne (images_by r e)
      by_renaming (Ok f) keeps = itself_or e (f e) one (keeps e one)
      by_renaming (Err c) keeps = tt

  -- ---- steps

  abbrev OfScript : Action → Type 0
  OfScript Tau = ⊤
  OfScript Tick = ⊤
  OfScript (Ev e) = IsOne e

  prefix_does : (c : ℕ) (fs : List Field) (all : List Communication) (m : Communication) → prefix_communications script c fs ≡ Ok all → Contains all m → IsOne (record { channel = c; fields = m.values })
  prefix_does c fs all m e has =
      let P : Communication → Type 0 = λ m. IsOne (record { channel = c; fields = m.values }) in
      one_of_all P all m (subst (IfValue (AllByRecursion P)) e (prefix_events c fs)) has

  pub does_events : (t : Process) (x : Action) (u : Process) → RuleStep script t x u → OfScript x
  does_events t x u skip = tt
  does_events t x u (prefix {c = c} {fs = fs} all m e has) = prefix_does c fs all m e has
  does_events t x u (call e) = tt
  does_events t x u (guard e step) = does_events _ _ _ step
  does_events t x u (if_true e step) = does_events _ _ _ step
  does_events t x u (if_false e step) = does_events _ _ _ step
  does_events t x u (external_tau_left step) = tt
  does_events t x u (external_tau_right step) = tt
  does_events t x u (external_left v step) = does_events _ _ _ step
  does_events t x u (external_right v step) = does_events _ _ _ step
  does_events t x u internal_left = tt
  does_events t x u internal_right = tt
  does_events t x u (sequential v step) = does_events _ _ _ step
  does_events t x u (sequential_tick step) = tt
  does_events t x u (interleaving_left v step) = does_events _ _ _ step
  does_events t x u (interleaving_right v step) = does_events _ _ _ step
  does_events t x u (interleaving_tick_left step) = tt
  does_events t x u (interleaving_tick_right step) = tt
  does_events t x u interleaving_tick = tt
  does_events t x u (interrupt_left v step) = does_events _ _ _ step
  does_events t x u (interrupt_tick step) = tt
  does_events t x u (interrupt_tau_right step) = tt
  does_events t x u (interrupt_right v step) = does_events _ _ _ step
  does_events t x u (sliding_tau step) = tt
  does_events t x u (sliding_left v step) = does_events _ _ _ step
  does_events t x u sliding_away = tt
  does_events t x u (generalised_left v step) = does_events _ _ _ step
  does_events t x u (generalised_right v step) = does_events _ _ _ step
  does_events t x u (generalised_both v left right) = does_events _ _ _ left
  does_events t x u (generalised_tick_left step) = tt
  does_events t x u (generalised_tick_right step) = tt
  does_events t x u generalised_tick = tt
  does_events t x u (alphabetised_left v step) = does_events _ _ _ step
  does_events t x u (alphabetised_right v step) = does_events _ _ _ step
  does_events t x u (alphabetised_both v w left right) = does_events _ _ _ left
  does_events t x u (alphabetised_tick_left step) = tt
  does_events t x u (alphabetised_tick_right step) = tt
  does_events t x u alphabetised_tick = tt
  does_events t x u (hiding_tau step) = tt
  does_events t x u (hiding_hidden v step) = tt
  does_events t x u (hiding_event v step) = does_events _ _ _ step
  does_events t x u (hiding_tick step) = tt
  does_events t x u (renaming_tau step) = tt
  does_events t x u (renaming_event {rs = rs} {e = e} {f = f} v step) = one_of_all IsOne (images script rs e) f (images_keep rs e (does_events _ (Ev e) _ step)) v
  does_events t x u (renaming_tick step) = tt
  does_events t x u (replicated_external vs is step) = does_events _ _ _ step
  does_events t x u (replicated_internal v vs is step) = does_events _ _ _ step
  does_events t x u (replicated_interleaving vs is step) = does_events _ _ _ step
