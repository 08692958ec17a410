-- Putting values of the right kinds in for names keeps kinds.
use Rattle.std.proofs.Common.{◌≡◌, ℕ, nat_eq, Bool, true, false, cond, List, [], ◌∷◌, Option, Some, None, refl, sym, ◌∙◌, ap, subst, inl, inr}
use Rattle.std.proofs.lemmas.Bool.{cond-true, cond-false, eqb-true, eqb-false, ne_eqb}
use Rattle.theory_syntax.specs.Value.{Value}
use Rattle.theory_syntax.specs.Expression.{Expression, Literal, Name, Apply, Combine, SequenceOf, SetOf, Range, Booleans, Datatype, Nametype, ConstructorOf, Expressions, no_expressions, expression_and}
use Rattle.theory_syntax.specs.Process.{Field, Given, Input, InputFrom, EventExpression, EventSet, Enumeration, Productions, EventUnion, EventIntersection, EventDifference, RenamingPair, Process, Stop, Skip, Omega, Call, Prefix, Guard, If, ExternalChoice, InternalChoice, Sequential, Interleaving, Interrupt, GeneralisedParallel, AlphabetisedParallel, Hiding, Renaming, ReplicatedExternalChoice, ReplicatedInternalChoice, ReplicatedInterleaving, SlidingChoice, Script}
use Rattle.theory_syntax.specs.Types.{Types}
use Rattle.theory_semantics.specs.Meaning.Events.{is_bare}
use Rattle.theory_semantics.specs.Meaning.Substitution.{Bindings, bound, without, bind, name_or, put_expression, put_expressions, put_fields, behind, put_event, put_events, put_event_set, put_pairs, put}
use Rattle.theory_semantics.specs.Kinds.Kind.{Kind, IntKind, BoolKind, DatatypeKind, SequenceKind, SetKind, Kinds, Scope, kind_of_name, Each}
use Rattle.theory_semantics.specs.Kinds.Values.{IsValueOf}
use Rattle.theory_semantics.specs.Kinds.Expressions.{HasKind, AllHaveKind, HaveKinds, HaveFirstKinds}
use Rattle.theory_semantics.specs.Kinds.Events.{FieldsHaveKinds, scope_behind, IsEvent, IsBeginning, IsEventSet, IsPair}
use Rattle.theory_semantics.specs.Kinds.Processes.{IsWellKinded}
use Rattle.theory_semantics.specs.Kinds.Putting.{BindingsFit}

-- ---- names with and without a value

either_none : (t : Bool) (m : ℕ) → bound [] m ≡ cond t None (bound [] m)
either_none true m = refl
either_none false m = refl

other_name : (k n m : ℕ) → nat_eq k n ≡ false → nat_eq k m ≡ true → nat_eq n m ≡ false
other_name k n m differs same = ne_eqb n m (λ e. eqb-false k n differs (eqb-true k m same ∙ sym e))

-- what a list without n gives m
pub bound_without : (n m : ℕ) (bs : Bindings) → bound (without n bs) m ≡ cond (nat_eq n m) None (bound bs m)
bound_without n m [] = either_none (nat_eq n m) m
bound_without n m (b ∷ bs) = by_hidden (nat_eq b.0 n) refl (bound_without n m bs)
  where
    by_name : (t : Bool) → bound (without n bs) m ≡ cond t None (bound bs m) → bound (without n bs) m ≡ cond t None (cond t (Some b.1) (bound bs m))
    by_name true rest = rest
    by_name false rest = rest

    by_found : (t : Bool) → nat_eq b.0 n ≡ false → nat_eq b.0 m ≡ t → bound (without n bs) m ≡ cond (nat_eq n m) None (bound bs m) →
        cond t (Some b.1) (bound (without n bs) m) ≡ cond (nat_eq n m) None (cond t (Some b.1) (bound bs m))
    by_found true differs same rest = ap (λ t. cond t None (Some b.1)) (sym (other_name b.0 n m differs same))
    by_found false differs same rest = rest

    by_hidden : (t : Bool) → nat_eq b.0 n ≡ t → bound (without n bs) m ≡ cond (nat_eq n m) None (bound bs m) →
        bound (cond t (without n bs) (b ∷ without n bs)) m ≡ cond (nat_eq n m) None (bound (b ∷ bs) m)
    by_hidden true is rest =
        let same : nat_eq b.0 m ≡ nat_eq n m = ap (λ k. nat_eq k m) (eqb-true b.0 n is) in
        by_name (nat_eq n m) rest ∙ ap (λ t. cond (nat_eq n m) None (cond t (Some b.1) (bound bs m))) (sym same)
    by_hidden false is rest = by_found (nat_eq b.0 m) is refl rest

module _ (types : Types) (kinds : Kinds) where
  -- a name of the outer scope is one of the inner, unless it is hidden
  under_value : (left : Scope) (n m : ℕ) (k j : Kind) (o : Option Value) → nat_eq n m ≡ false → HasKind types kinds left (name_or o m) j → HasKind types kinds ((n, k) ∷ left) (name_or o m) j
  under_value left n m k j (Some v) is h = h
  under_value left n m k j None is h = cond-false (nat_eq n m) (Some k) (kind_of_name left m) is ∙ h

  -- under a binder
  pub fit_under : (bs : Bindings) (scope left : Scope) (n : ℕ) (k : Kind) → BindingsFit types kinds bs scope left → BindingsFit types kinds (without n bs) ((n, k) ∷ scope) ((n, k) ∷ left)
  fit_under bs scope left n k fit m j e = subst (λ o. HasKind types kinds ((n, k) ∷ left) (name_or o m) j) (sym (bound_without n m bs)) (by_test (nat_eq n m) refl e)
    where
      by_test : (t : Bool) → nat_eq n m ≡ t → cond t (Some k) (kind_of_name scope m) ≡ Some j → HasKind types kinds ((n, k) ∷ left) (name_or (cond t None (bound bs m)) m) j
      by_test true is f = cond-true (nat_eq n m) (Some k) (kind_of_name left m) is ∙ f
      by_test false is f = under_value left n m k j (bound bs m) is (fit m j f)

  -- with a value for one more name
  pub fit_bind : (bs : Bindings) (scope left : Scope) (n : ℕ) (v : Value) (k : Kind) → IsValueOf types kinds v k → BindingsFit types kinds bs scope left →
      BindingsFit types kinds (bind n v bs) ((n, k) ∷ scope) left
  fit_bind bs scope left n v k h fit m j e = by_test (nat_eq n m) refl e
    where
      by_test : (t : Bool) → nat_eq n m ≡ t → cond t (Some k) (kind_of_name scope m) ≡ Some j → HasKind types kinds left (name_or (cond t (Some v) (bound (without n bs) m)) m) j
      by_test true is f = let same : k ≡ j = cc f in subst (λ i. IsValueOf types kinds v i) same h
      by_test false is f =
          let rest : bound (without n bs) m ≡ bound bs m = bound_without n m bs ∙ cond-false (nat_eq n m) None (bound bs m) is in
          subst (λ o. HasKind types kinds left (name_or o m) j) (sym rest) (fit m j f)

  pub fit_nothing : (scope : Scope) → BindingsFit types kinds [] scope scope
  fit_nothing scope n k e = e

  -- the same, where no value is hidden
  pub fit_more : (bs : Bindings) (scope left : Scope) (n : ℕ) (v : Value) (k : Kind) → IsValueOf types kinds v k → BindingsFit types kinds bs scope left →
      BindingsFit types kinds ((n, v) ∷ bs) ((n, k) ∷ scope) left
  fit_more bs scope left n v k h fit m j e = by_test (nat_eq n m) e
    where
      by_test : (t : Bool) → cond t (Some k) (kind_of_name scope m) ≡ Some j → HasKind types kinds left (name_or (cond t (Some v) (bound bs m)) m) j
      by_test true f = let same : k ≡ j = cc f in subst (λ i. IsValueOf types kinds v i) same h
      by_test false f = fit m j f

  -- ---- expressions

  module _ (bs : Bindings) (scope left : Scope) (fit : BindingsFit types kinds bs scope left) where
    mutual
      pub put_expression_kind : (e : Expression) (k : Kind) → HasKind types kinds scope e k → HasKind types kinds left (put_expression bs e) k
      put_expression_kind (Literal v) k h = h
      put_expression_kind (Name n) k h = fit n k h
      put_expression_kind (Apply op e) k h = (h.0, h.1, put_expression_kind e h.0 h.2)
      put_expression_kind (Combine op e f) k h = (h.0, h.1, h.2, put_expression_kind e h.0 h.3, put_expression_kind f h.1 h.4)
      put_expression_kind (SequenceOf es) (SequenceKind k) h = put_expressions_kind es k h
      put_expression_kind (SetOf es) (SetKind k) h = put_expressions_kind es k h
      put_expression_kind (Range e f) (SetKind IntKind) h = (put_expression_kind e IntKind h.0, put_expression_kind f IntKind h.1)
      put_expression_kind Booleans (SetKind BoolKind) h = tt
      put_expression_kind (Datatype d) (SetKind (DatatypeKind c)) h = h
      put_expression_kind (Nametype n) (SetKind k) h = h
      put_expression_kind (ConstructorOf c es) (DatatypeKind d) h = (h.0, (h.1.0, h.1.1, put_have_kinds es h.1.0 h.1.2))
      put_expression_kind _ _ h = absurd h

      pub put_expressions_kind : (es : Expressions) (k : Kind) → AllHaveKind types kinds scope es k → AllHaveKind types kinds left (put_expressions bs es) k
      put_expressions_kind no_expressions k h = tt
      put_expressions_kind (expression_and e es) k h = (put_expression_kind e k h.0, put_expressions_kind es k h.1)

      pub put_have_kinds : (es : Expressions) (ks : List Kind) → HaveKinds types kinds scope es ks → HaveKinds types kinds left (put_expressions bs es) ks
      put_have_kinds no_expressions [] h = tt
      put_have_kinds no_expressions (k ∷ ks) h = absurd h
      put_have_kinds (expression_and e es) [] h = absurd h
      put_have_kinds (expression_and e es) (k ∷ ks) h = (put_expression_kind e k h.0, put_have_kinds es ks h.1)

    pub put_first_kinds : (es : Expressions) (ks : List Kind) → HaveFirstKinds types kinds scope es ks → HaveFirstKinds types kinds left (put_expressions bs es) ks
    put_first_kinds no_expressions ks h = tt
    put_first_kinds (expression_and e es) [] h = absurd h
    put_first_kinds (expression_and e es) (k ∷ ks) h = (put_expression_kind e k h.0, put_first_kinds es ks h.1)

    pub put_is_event : (e : EventExpression) → IsEvent types kinds scope e → IsEvent types kinds left (put_event bs e)
    put_is_event e h = (h.0, h.1, put_have_kinds e.fields h.0 h.2)

    put_is_beginning : (e : EventExpression) → IsBeginning types kinds scope e → IsBeginning types kinds left (put_event bs e)
    put_is_beginning e h = (h.0, h.1, put_first_kinds e.fields h.0 h.2)

    put_all_events : (es : List EventExpression) → Each (IsEvent types kinds scope) es → Each (IsEvent types kinds left) (put_events bs es)
    put_all_events [] h = tt
    put_all_events (e ∷ es) h = (put_is_event e h.0, put_all_events es h.1)

    put_all_beginnings : (es : List EventExpression) → Each (IsBeginning types kinds scope) es → Each (IsBeginning types kinds left) (put_events bs es)
    put_all_beginnings [] h = tt
    put_all_beginnings (e ∷ es) h = (put_is_beginning e h.0, put_all_beginnings es h.1)

    pub put_is_event_set : (a : EventSet) → IsEventSet types kinds scope a → IsEventSet types kinds left (put_event_set bs a)
    put_is_event_set (Enumeration es) h = put_all_events es h
    put_is_event_set (Productions es) h = put_all_beginnings es h
    put_is_event_set (EventUnion a b) h = (put_is_event_set a h.0, put_is_event_set b h.1)
    put_is_event_set (EventIntersection a b) h = (put_is_event_set a h.0, put_is_event_set b h.1)
    put_is_event_set (EventDifference a b) h = (put_is_event_set a h.0, put_is_event_set b h.1)

  -- ---- fields of prefixes

  pub put_fields_kinds : (bs : Bindings) (scope left : Scope) (fs : List Field) (ks : List Kind) → BindingsFit types kinds bs scope left → FieldsHaveKinds types kinds scope fs ks
      → FieldsHaveKinds types kinds left (put_fields bs fs) ks
  put_fields_kinds bs scope left [] [] fit h = tt
  put_fields_kinds bs scope left (Given e ∷ fs) (k ∷ ks) fit h = (put_expression_kind bs scope left fit e k h.0, put_fields_kinds bs scope left fs ks fit h.1)
  put_fields_kinds bs scope left (Input n ∷ fs) (k ∷ ks) fit h = put_fields_kinds (without n bs) ((n, k) ∷ scope) ((n, k) ∷ left) fs ks (fit_under bs scope left n k fit) h
  put_fields_kinds bs scope left (InputFrom n e ∷ fs) (k ∷ ks) fit h =
      (put_expression_kind bs scope left fit e (SetKind k) h.0, put_fields_kinds (without n bs) ((n, k) ∷ scope) ((n, k) ∷ left) fs ks (fit_under bs scope left n k fit) h.1)
  put_fields_kinds bs scope left _ _ fit h = absurd h

  pub fit_behind : (bs : Bindings) (scope left : Scope) (fs : List Field) (ks : List Kind) → BindingsFit types kinds bs scope left → FieldsHaveKinds types kinds scope fs ks
      → BindingsFit types kinds (behind bs fs) (scope_behind scope fs ks) (scope_behind left (put_fields bs fs) ks)
  fit_behind bs scope left [] [] fit h = fit
  fit_behind bs scope left (Given e ∷ fs) (k ∷ ks) fit h = fit_behind bs scope left fs ks fit h.1
  fit_behind bs scope left (Input n ∷ fs) (k ∷ ks) fit h = fit_behind (without n bs) ((n, k) ∷ scope) ((n, k) ∷ left) fs ks (fit_under bs scope left n k fit) h
  fit_behind bs scope left (InputFrom n e ∷ fs) (k ∷ ks) fit h = fit_behind (without n bs) ((n, k) ∷ scope) ((n, k) ∷ left) fs ks (fit_under bs scope left n k fit) h.1
  fit_behind bs scope left _ _ fit h = absurd h

-- ---- renamings and processes

bare_put : (bs : Bindings) (e : EventExpression) → is_bare (put_event bs e) ≡ is_bare e
bare_put bs e = by_fields e.fields
  where
    by_fields : (es : Expressions) → is_bare (record { channel = e.channel; fields = put_expressions bs es }) ≡ is_bare (record { channel = e.channel; fields = es })
    by_fields no_expressions = refl
    by_fields (expression_and f fs) = refl

module _ (script : Script) (kinds : Kinds) where
  put_is_pair : (bs : Bindings) (scope left : Scope) → BindingsFit script.types kinds bs scope left → (r : RenamingPair) → IsPair script kinds scope r →
      IsPair script kinds left (record { from = put_event bs r.from; to = put_event bs r.to })
  put_is_pair bs scope left fit r (inl h) = inl (put_is_event script.types kinds bs scope left fit r.from h.0, put_is_event script.types kinds bs scope left fit r.to h.1)
  put_is_pair bs scope left fit r (inr h) = inr (bare_put bs r.from ∙ h.0, bare_put bs r.to ∙ h.1, h.2)

  pub put_all_pairs : (bs : Bindings) (scope left : Scope) → BindingsFit script.types kinds bs scope left → (rs : List RenamingPair) →
      Each (IsPair script kinds scope) rs → Each (IsPair script kinds left) (put_pairs bs rs)
  put_all_pairs bs scope left fit [] h = tt
  put_all_pairs bs scope left fit (r ∷ rs) h = (put_is_pair bs scope left fit r h.0, put_all_pairs bs scope left fit rs h.1)

  pub put_kinded : (bs : Bindings) (scope left : Scope) (p : Process) → BindingsFit script.types kinds bs scope left → IsWellKinded script kinds scope p → IsWellKinded script kinds left (put bs p)
  put_kinded bs scope left Stop fit h = tt
  put_kinded bs scope left Skip fit h = tt
  put_kinded bs scope left Omega fit h = tt
  put_kinded bs scope left (Call n es) fit h = (h.0, h.1, put_have_kinds script.types kinds bs scope left fit es h.0 h.2)
  put_kinded bs scope left (Prefix c fs p) fit h = (
    h.0,
    h.1,
    put_fields_kinds script.types kinds bs scope left fs h.0 fit h.2,
    put_kinded (behind bs fs) (scope_behind scope fs h.0) (scope_behind left (put_fields bs fs) h.0) p (fit_behind script.types kinds bs scope left fs h.0 fit h.2) h.3,
  )
  put_kinded bs scope left (Guard e p) fit h = (put_expression_kind script.types kinds bs scope left fit e BoolKind h.0, put_kinded bs scope left p fit h.1)
  put_kinded bs scope left (If e p q) fit h = (put_expression_kind script.types kinds bs scope left fit e BoolKind h.0, put_kinded bs scope left p fit h.1, put_kinded bs scope left q fit h.2)
  put_kinded bs scope left (ExternalChoice p q) fit h = (put_kinded bs scope left p fit h.0, put_kinded bs scope left q fit h.1)
  put_kinded bs scope left (InternalChoice p q) fit h = (put_kinded bs scope left p fit h.0, put_kinded bs scope left q fit h.1)
  put_kinded bs scope left (Sequential p q) fit h = (put_kinded bs scope left p fit h.0, put_kinded bs scope left q fit h.1)
  put_kinded bs scope left (Interleaving p q) fit h = (put_kinded bs scope left p fit h.0, put_kinded bs scope left q fit h.1)
  put_kinded bs scope left (Interrupt p q) fit h = (put_kinded bs scope left p fit h.0, put_kinded bs scope left q fit h.1)
  put_kinded bs scope left (GeneralisedParallel p a q) fit h = (put_kinded bs scope left p fit h.0, put_is_event_set script.types kinds bs scope left fit a h.1, put_kinded bs scope left q fit h.2)
  put_kinded bs scope left (AlphabetisedParallel p a b q) fit h = (
    put_kinded bs scope left p fit h.0,
    put_is_event_set script.types kinds bs scope left fit a h.1,
    put_is_event_set script.types kinds bs scope left fit b h.2,
    put_kinded bs scope left q fit h.3,
  )
  put_kinded bs scope left (Hiding p a) fit h = (put_kinded bs scope left p fit h.0, put_is_event_set script.types kinds bs scope left fit a h.1)
  put_kinded bs scope left (Renaming p rs) fit h = (put_kinded bs scope left p fit h.0, put_all_pairs bs scope left fit rs h.1)
  put_kinded bs scope left (ReplicatedExternalChoice n e p) fit h = (
    h.0,
    put_expression_kind script.types kinds bs scope left fit e (SetKind h.0) h.1,
    put_kinded (without n bs) ((n, h.0) ∷ scope) ((n, h.0) ∷ left) p (fit_under script.types kinds bs scope left n h.0 fit) h.2,
  )
  put_kinded bs scope left (ReplicatedInternalChoice n e p) fit h = (
    h.0,
    put_expression_kind script.types kinds bs scope left fit e (SetKind h.0) h.1,
    put_kinded (without n bs) ((n, h.0) ∷ scope) ((n, h.0) ∷ left) p (fit_under script.types kinds bs scope left n h.0 fit) h.2,
  )
  put_kinded bs scope left (ReplicatedInterleaving n e p) fit h = (
    h.0,
    put_expression_kind script.types kinds bs scope left fit e (SetKind h.0) h.1,
    put_kinded (without n bs) ((n, h.0) ∷ scope) ((n, h.0) ∷ left) p (fit_under script.types kinds bs scope left n h.0 fit) h.2,
  )
  put_kinded bs scope left (SlidingChoice p q) fit h = (put_kinded bs scope left p fit h.0, put_kinded bs scope left q fit h.1)
