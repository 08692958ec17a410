-- Closed terms of a checked script meet no misfit, and their steps lead to closed terms.
use Rattle.std.proofs.Common.{◌≡◌, ℕ, suc, nat_eq, Bool, true, false, ◌&&◌, cond, List, [], ◌∷◌, length, filter, slice_get, ok_or, Option, Some, Result, Ok, Err, refl, sym, ◌∙◌, ap, ap₂, subst, inl, inr, arith}
use Rattle.std.specs.Prelude.{⊤}
use Rattle.std.specs.declared.cmp.Ordering.TheVariants.{Equal}
use Rattle.std.specs.Ordering.{is_eq, ordering_then}
use Rattle.std.specs.Cmp.Lexicographic.{slice_cmp}
use Rattle.std.proofs.lemmas.Bool.{eq-eqb}
use Rattle.theory_syntax.specs.Value.{Value, Truth, Set, value_cmp, has_value, Event}
use Rattle.theory_syntax.specs.Expression.{Expression, Expressions, no_expressions, expression_and, expressions_list}
use Rattle.theory_syntax.specs.Process.{Field, Given, Input, InputFrom, EventExpression, EventSet, Enumeration, Productions, EventUnion, EventIntersection, EventDifference, RenamingPair, Process, Script}
use Rattle.theory_semantics.specs.Meaning.Evaluation.{Cause, OutOfRange, IllKinded, in_field_set, value, values, given_values}
use Rattle.theory_semantics.specs.Meaning.Substitution.{Bindings, bind, put_expression}
use Rattle.theory_semantics.specs.Meaning.Events.{each, truth_of, condition, members_of, elements, field_sets, Communication, with_value, communications, prefix_communications, beginning_of, event_of, event_test, is_bare, same_sets, channel_images, event_images, pair_images, renaming, parameter_bindings, called, instances}
use Rattle.theory_semantics.specs.Kinds.Kind.{Kind, BoolKind, SetKind, Kinds, Scope, scope_of, InTurn, Each}
use Rattle.theory_semantics.specs.Kinds.Values.{IsValueOf, MembersHaveKind, AreMembersOf}
use Rattle.theory_semantics.specs.Kinds.Expressions.{HasKind, HaveKinds, HaveFirstKinds}
use Rattle.theory_semantics.specs.Kinds.Events.{FieldsHaveKinds, scope_behind, IsEvent, IsBeginning, IsEventSet, HaveSameSets, IsPair}
use Rattle.theory_semantics.specs.Kinds.Processes.{IsWellKinded, IsClosedTerm}
use Rattle.theory_semantics.specs.Kinds.Putting.{BindingsFit}
use Rattle.theory_semantics.specs.Kinds.Scripts.{SetsHaveTheirKinds, IsWellKindedEquation, SetsHaveKinds}
use Rattle.theory_syntax.proofs.Equalities.{fields_refl}
use Rattle.theory_semantics.proofs.Misfits.{Gives, gives_then, gives_cond, gives_each, gives_each_list, each_filter, in_turn_get, in_turn_length}
use Rattle.theory_semantics.proofs.KindedValues.{listed, value_kind}
use Rattle.theory_semantics.proofs.KindedPutting.{fit_bind, fit_more, fit_nothing, put_expression_kind, put_kinded}

-- a result that is no misfit
abbrev pub GivesAny : {A : Type 0} → Result A Cause → Type 0
GivesAny r = Gives (λ x. ⊤) r

any_cond : {A : Type 0} (b : Bool) (x : A) (c : Cause) → b ≡ true → GivesAny (cond b (Ok x) (Err c))
any_cond true x c e = tt
any_cond false x c e = absurd (cc e)

pub sets_refl : (s : List (List Value)) → slice_cmp (slice_cmp value_cmp) s s ≡ Equal
sets_refl [] = refl
sets_refl (vs ∷ s) = ap₂ ordering_then (fields_refl vs) (sets_refl s)

with_each : (P : Bindings → Type 0) (v : Value) (ms : List Communication) → Each (λ m. P m.bindings) ms → Each (λ m. P m.bindings) (with_value v ms)
with_each P v [] h = tt
with_each P v (m ∷ ms) h = (h.0, with_each P v ms h.1)

module _ (script : Script) (kinds : Kinds) (sets : SetsHaveKinds script kinds) where
  truth_any : (v : Value) → IsValueOf script.types kinds v BoolKind → GivesAny (truth_of v)
  truth_any (Truth b) h = tt
  truth_any _ h = absurd h

  pub condition_any : (e : Expression) → HasKind script.types kinds [] e BoolKind → GivesAny (condition script.types e)
  condition_any e h = gives_then (λ v. IsValueOf script.types kinds v BoolKind) (λ b. ⊤) (value script.types e) _ (value_kind script.types kinds sets.types e BoolKind h) truth_any

  members_kind : (k : Kind) (v : Value) → IsValueOf script.types kinds v (SetKind k) → Gives (λ vs. AreMembersOf script.types kinds vs k) (members_of v)
  members_kind k (Set vs) h = (listed script.types kinds vs k h.0, h.1)
  members_kind k _ h = absurd h

  pub elements_kind : (e : Expression) (k : Kind) → HasKind script.types kinds [] e (SetKind k) → Gives (λ vs. AreMembersOf script.types kinds vs k) (elements script.types e)
  elements_kind e k h =
      gives_then (λ v. IsValueOf script.types kinds v (SetKind k)) (λ vs. AreMembersOf script.types kinds vs k) (value script.types e) _
      (value_kind script.types kinds sets.types e (SetKind k) h) (members_kind k)

  pub in_turn_values : (es : Expressions) (ks : List Kind) → HaveKinds script.types kinds [] es ks → Gives (λ vs. InTurn (IsValueOf script.types kinds) vs ks) (values script.types es)
  in_turn_values no_expressions [] h = tt
  in_turn_values no_expressions (k ∷ ks) h = absurd h
  in_turn_values (expression_and e es) [] h = absurd h
  in_turn_values (expression_and e es) (k ∷ ks) h =
      gives_then (λ v. IsValueOf script.types kinds v k) (λ vs. InTurn (IsValueOf script.types kinds) vs (k ∷ ks)) (value script.types e) _ (value_kind script.types kinds sets.types e k h.0) (λ v g.
      gives_then (λ vs. InTurn (IsValueOf script.types kinds) vs ks) (λ vs. InTurn (IsValueOf script.types kinds) vs (k ∷ ks)) (values script.types es) _ (in_turn_values es ks h.1) (λ vs i. (g, i)))

  field_sets_kinds : (c : ℕ) (ks : List Kind) → slice_get kinds.channels c ≡ Some ks → Gives (λ s. SetsHaveTheirKinds script.types kinds s ks) (field_sets script c)
  field_sets_kinds c ks e =
      let found = in_turn_get (SetsHaveTheirKinds script.types kinds) script.channels kinds.channels c ks sets.channels e in
      subst (λ (o : Option (List (List Value))). Gives (λ s. SetsHaveTheirKinds script.types kinds s ks) (ok_or o IllKinded)) (sym found.1) found.2

  -- ---- prefixes

  in_set_any : (set : List Value) (v : Value) → GivesAny (in_field_set set v)
  in_set_any set v = gives_cond (λ w. ⊤) (has_value set v) v OutOfRange tt tt

  pub communications_fit : (bs : Bindings) (scope : Scope) (fs : List Field) (s : List (List Value)) (ks : List Kind) → BindingsFit script.types kinds bs scope [] →
      FieldsHaveKinds script.types kinds scope fs ks →
      SetsHaveTheirKinds script.types kinds s ks → Gives (Each (λ m. BindingsFit script.types kinds m.bindings (scope_behind scope fs ks) [])) (communications script.types bs fs s)
  communications_fit bs scope [] [] [] fit h g = (fit, tt)
  communications_fit bs scope (Given e ∷ fs) (set ∷ s) (k ∷ ks) fit h g =
      let Q : Communication → Type 0 = λ m. BindingsFit script.types kinds m.bindings (scope_behind scope fs ks) [] in
      gives_then (λ v. IsValueOf script.types kinds v k) (Each Q) (value script.types (put_expression bs e)) _
      (value_kind script.types kinds sets.types (put_expression bs e) k (put_expression_kind script.types kinds bs scope [] fit e k h.0)) (λ v i.
      gives_then (λ w. ⊤) (Each Q) (in_field_set set v) _ (in_set_any set v) (λ w j.
      gives_then (Each Q) (Each Q) (communications script.types bs fs s) _ (communications_fit bs scope fs s ks fit h.1 g.1) (λ ms all.
      with_each (λ b. BindingsFit script.types kinds b (scope_behind scope fs ks) []) v ms all)))
  communications_fit bs scope (Input n ∷ fs) (set ∷ s) (k ∷ ks) fit h g =
      let Q : Communication → Type 0 = λ m. BindingsFit script.types kinds m.bindings (scope_behind ((n, k) ∷ scope) fs ks) [] in
      gives_each_list (λ v. IsValueOf script.types kinds v k) Q _ set g.0.0 (λ v i.
      gives_then (Each Q) (Each Q) (communications script.types (bind n v bs) fs s) _
      (communications_fit (bind n v bs) ((n, k) ∷ scope) fs s ks (fit_bind script.types kinds bs scope [] n v k i fit) h g.1) (λ ms all.
      with_each (λ b. BindingsFit script.types kinds b (scope_behind ((n, k) ∷ scope) fs ks) []) v ms all))
  communications_fit bs scope (InputFrom n e ∷ fs) (set ∷ s) (k ∷ ks) fit h g =
      let Q : Communication → Type 0 = λ m. BindingsFit script.types kinds m.bindings (scope_behind ((n, k) ∷ scope) fs ks) [] in
      gives_then (λ vs. AreMembersOf script.types kinds vs k) (Each Q) (elements script.types (put_expression bs e)) _
      (elements_kind (put_expression bs e) k (put_expression_kind script.types kinds bs scope [] fit e (SetKind k) h.0)) (λ vs all.
      gives_each_list (λ v. IsValueOf script.types kinds v k) Q _ (filter (λ v. has_value set v) vs) (each_filter (λ v. IsValueOf script.types kinds v k) (λ v. has_value set v) vs all.0) (λ v i.
      gives_then (Each Q) (Each Q) (communications script.types (bind n v bs) fs s) _
      (communications_fit (bind n v bs) ((n, k) ∷ scope) fs s ks (fit_bind script.types kinds bs scope [] n v k i fit) h.1 g.1) (λ ms all.
      with_each (λ b. BindingsFit script.types kinds b (scope_behind ((n, k) ∷ scope) fs ks) []) v ms all)))
  communications_fit bs scope _ _ _ fit h g = grind arith

  pub prefix_fit : (c : ℕ) (fs : List Field) (ks : List Kind) → slice_get kinds.channels c ≡ Some ks → FieldsHaveKinds script.types kinds [] fs ks →
      Gives (Each (λ m. BindingsFit script.types kinds m.bindings (scope_behind [] fs ks) [])) (prefix_communications script c fs)
  prefix_fit c fs ks e h =
      gives_then (λ s. SetsHaveTheirKinds script.types kinds s ks) (Each (λ m. BindingsFit script.types kinds m.bindings (scope_behind [] fs ks) [])) (field_sets script c) _ (field_sets_kinds c ks e)
      (λ s g. communications_fit [] [] fs s ks (fit_nothing script.types kinds []) h g)

  -- ---- sets of events and renamings

  -- expressions of kinds in turn begin with the first of them, and are as many
  first_of_all : (es : Expressions) (ks : List Kind) → HaveKinds script.types kinds [] es ks → HaveFirstKinds script.types kinds [] es ks
  first_of_all no_expressions ks h = tt
  first_of_all (expression_and e es) [] h = absurd h
  first_of_all (expression_and e es) (k ∷ ks) h = (h.0, first_of_all es ks h.1)

  as_many : (es : Expressions) (ks : List Kind) → HaveKinds script.types kinds [] es ks → length (expressions_list es) ≡ length ks
  as_many no_expressions [] h = refl
  as_many no_expressions (k ∷ ks) h = absurd h
  as_many (expression_and e es) [] h = absurd h
  as_many (expression_and e es) (k ∷ ks) h = ap suc (as_many es ks h.1)

  given_length : (es : Expressions) (s : List (List Value)) (ks : List Kind) → HaveFirstKinds script.types kinds [] es ks → SetsHaveTheirKinds script.types kinds s ks →
      Gives (λ vs. length vs ≡ length (expressions_list es)) (given_values script.types es s)
  given_length no_expressions s ks h g = refl
  given_length (expression_and e es) [] [] h g = absurd h
  given_length (expression_and e es) (set ∷ s) (k ∷ ks) h g =
      let Q : List Value → Type 0 = λ vs. length vs ≡ suc (length (expressions_list es)) in
      gives_then (λ v. IsValueOf script.types kinds v k) Q (value script.types e) _ (value_kind script.types kinds sets.types e k h.0) (λ v i.
      gives_then (λ w. ⊤) Q (in_field_set set v) _ (in_set_any set v) (λ w j.
      gives_then (λ vs. length vs ≡ length (expressions_list es)) Q (given_values script.types es s) _ (given_length es s ks h.1 g.1) (λ vs same. ap suc same)))
  given_length (expression_and e es) _ _ h g = grind arith

  pub event_any : (e : EventExpression) → IsEvent script.types kinds [] e → GivesAny (event_of script e)
  event_any e h =
      gives_then (λ s. SetsHaveTheirKinds script.types kinds s h.0) (λ f. ⊤) (field_sets script e.channel) _ (field_sets_kinds e.channel h.0 h.1) (λ s g.
      gives_then (λ vs. length vs ≡ length (expressions_list e.fields)) (λ f. ⊤) (given_values script.types e.fields s) _
      (given_length e.fields s h.0 (first_of_all e.fields h.0 h.2) g) (λ vs same.
      any_cond (nat_eq (length vs) (length s)) (record { channel = e.channel; fields = vs }) IllKinded
      (eq-eqb (length vs) (length s) (same ∙ as_many e.fields h.0 h.2 ∙ sym (in_turn_length (AreMembersOf script.types kinds) s h.0 g)))))

  pub beginning_any : (e : EventExpression) → IsBeginning script.types kinds [] e → GivesAny (beginning_of script e)
  beginning_any e h =
      gives_then (λ s. SetsHaveTheirKinds script.types kinds s h.0) (λ f. ⊤) (field_sets script e.channel) _ (field_sets_kinds e.channel h.0 h.1) (λ s g.
      gives_then (λ vs. length vs ≡ length (expressions_list e.fields)) (λ f. ⊤) (given_values script.types e.fields s) _ (given_length e.fields s h.0 h.2 g) (λ vs same. tt))

  pub event_test_any : (a : EventSet) → IsEventSet script.types kinds [] a → GivesAny (event_test script a)
  event_test_any (Enumeration es) h = gives_then (Each (λ e. ⊤)) (λ f. ⊤) (each (event_of script) es) _
      (gives_each (IsEvent script.types kinds []) (λ e. ⊤) (event_of script) es h event_any) (λ all g. tt)
  event_test_any (Productions es) h = gives_then (Each (λ e. ⊤)) (λ f. ⊤) (each (beginning_of script) es) _
      (gives_each (IsBeginning script.types kinds []) (λ e. ⊤) (beginning_of script) es h beginning_any) (λ all g. tt)
  event_test_any (EventUnion a b) h = gives_then (λ f. ⊤) (λ f. ⊤) (event_test script a) _ (event_test_any a h.0)
      (λ f i. gives_then (λ g. ⊤) (λ f. ⊤) (event_test script b) _ (event_test_any b h.1) (λ g j. tt))
  event_test_any (EventIntersection a b) h = gives_then (λ f. ⊤) (λ f. ⊤) (event_test script a) _ (event_test_any a h.0)
      (λ f i. gives_then (λ g. ⊤) (λ f. ⊤) (event_test script b) _ (event_test_any b h.1) (λ g j. tt))
  event_test_any (EventDifference a b) h = gives_then (λ f. ⊤) (λ f. ⊤) (event_test script a) _ (event_test_any a h.0)
      (λ f i. gives_then (λ g. ⊤) (λ f. ⊤) (event_test script b) _ (event_test_any b h.1) (λ g j. tt))

  channel_images_any : (c d : ℕ) → HaveSameSets script c d → GivesAny (channel_images script c d)
  channel_images_any c d h =
      rw (h.1, h.2) (any_cond (same_sets h.0 h.0) (λ (e : Event). cond (nat_eq e.channel c) (record { channel = d; fields = e.fields } ∷ []) []) IllKinded (ap is_eq (sets_refl h.0)))

  event_images_any : (c d : EventExpression) → IsEvent script.types kinds [] c → IsEvent script.types kinds [] d → GivesAny (event_images script c d)
  event_images_any c d g h = gives_then (λ f. ⊤) (λ f. ⊤) (event_of script c) _ (event_any c g) (λ f i. gives_then (λ f. ⊤) (λ f. ⊤) (event_of script d) _ (event_any d h) (λ f j. tt))

  -- a bare event is one of a channel without fields
  bare_sets : (c : ℕ) (es : Expressions) (ks : List Kind) → is_bare (record { channel = c; fields = es }) ≡ true → slice_get kinds.channels c ≡ Some ks →
      HaveKinds script.types kinds [] es ks → slice_get script.channels c ≡ Some []
  bare_sets c no_expressions [] bare e h =
      let found = in_turn_get (SetsHaveTheirKinds script.types kinds) script.channels kinds.channels c [] sets.channels e in
      found.1 ∙ ap Some (none found.0 found.2)
    where
      none : (s : List (List Value)) → SetsHaveTheirKinds script.types kinds s [] → s ≡ []
      none [] g = refl
      none (vs ∷ s) g = absurd g
  bare_sets c no_expressions (k ∷ ks) bare e h = absurd h
  bare_sets c (expression_and f fs) ks bare e h = absurd (cc bare)

  and_parts : (a b : Bool) → a && b ≡ true → (a ≡ true) × (b ≡ true)
  and_parts true b e = (refl, e)
  and_parts false b e = absurd (cc e)

  pair_by : (r : RenamingPair) (b : Bool) → is_bare r.from && is_bare r.to ≡ b → IsPair script kinds [] r →
      GivesAny (elim b [ true ↦ channel_images script r.from.channel r.to.channel | false ↦ event_images script r.from r.to ])
  pair_by r true e (inl h) =
      let bare = and_parts (is_bare r.from) (is_bare r.to) e in
      channel_images_any r.from.channel r.to.channel ([], bare_sets r.from.channel r.from.fields h.0.0 bare.0 h.0.1 h.0.2, bare_sets r.to.channel r.to.fields h.1.0 bare.1 h.1.1 h.1.2)
  pair_by r true e (inr h) = channel_images_any r.from.channel r.to.channel h.2
  pair_by r false e (inl h) = event_images_any r.from r.to h.0 h.1
  pair_by r false e (inr h) = let both : is_bare r.from && is_bare r.to ≡ true = ap₂ (λ a b. a && b) h.0 h.1 in absurd (cc (both, e))

  pub renaming_any : (rs : List RenamingPair) → Each (IsPair script kinds []) rs → GivesAny (renaming script rs)
  renaming_any [] h = tt
  renaming_any (r ∷ rs) h =
      gives_then (λ f. ⊤) (λ f. ⊤) (pair_images script r) _ (pair_by r (is_bare r.from && is_bare r.to) refl h.0)
      (λ f i. gives_then (λ f. ⊤) (λ f. ⊤) (renaming script rs) _ (renaming_any rs h.1) (λ g j. tt))

  -- ---- instances and calls

  pub instances_closed : (n : ℕ) (p : Process) (k : Kind) (vs : List Value) → IsWellKinded script kinds ((n, k) ∷ []) p → MembersHaveKind script.types kinds vs k →
      Each (IsClosedTerm script kinds) (instances n p vs)
  instances_closed n p k [] h g = tt
  instances_closed n p k (v ∷ vs) h g = (
    put_kinded script kinds ((n, v) ∷ []) ((n, k) ∷ []) [] p (fit_more script.types kinds [] [] [] n v k g.0 (fit_nothing script.types kinds [])) h,
    instances_closed n p k vs h g.1,
  )

  parameters_fit : (ns : List ℕ) (vs : List Value) (ks : List Kind) → length ns ≡ length ks → InTurn (IsValueOf script.types kinds) vs ks →
      Gives (λ bs. BindingsFit script.types kinds bs (scope_of ns ks) []) (parameter_bindings ns vs)
  parameters_fit [] [] [] same h = fit_nothing script.types kinds []
  parameters_fit (n ∷ ns) (v ∷ vs) (k ∷ ks) same h =
      gives_then (λ bs. BindingsFit script.types kinds bs (scope_of ns ks) []) (λ bs. BindingsFit script.types kinds bs ((n, k) ∷ scope_of ns ks) [])
      (parameter_bindings ns vs) _ (parameters_fit ns vs ks (omega (arith, same)) h.1)
      (λ bs fit. fit_more script.types kinds bs (scope_of ns ks) [] n v k h.0 fit)
  parameters_fit _ _ _ same h = grind arith

  pub called_closed : InTurn (IsWellKindedEquation script kinds) script.equations kinds.parameters → (n : ℕ) (es : Expressions) (ks : List Kind) →
      slice_get kinds.parameters n ≡ Some ks → HaveKinds script.types kinds [] es ks →
      Gives (IsClosedTerm script kinds) (called script n es)
  called_closed equations n es ks e h =
      gives_then (λ vs. InTurn (IsValueOf script.types kinds) vs ks) (IsClosedTerm script kinds) (values script.types es) _ (in_turn_values es ks h) (λ vs g.
      let found = in_turn_get (IsWellKindedEquation script kinds) script.equations kinds.parameters n ks equations e in
      let equation = found.0 in
      rw (found.1)
      (gives_then (λ bs. BindingsFit script.types kinds bs (scope_of equation.parameters ks) []) (IsClosedTerm script kinds) (parameter_bindings equation.parameters vs) _
      (parameters_fit equation.parameters vs ks found.2.parameters g)
      (λ bs fit. put_kinded script kinds bs (scope_of equation.parameters ks) [] equation.body fit found.2.body)))
