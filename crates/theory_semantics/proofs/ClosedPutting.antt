-- Values that are put in for other names than those of the scope change nothing.
use Rattle.std.proofs.Common.{◌≡◌, ℕ, nat_eq, Bool, true, false, cond, List, [], ◌∷◌, Some, None, refl, ◌∙◌, ap, ap₂, inl, inr}
use Rattle.theory_syntax.specs.Expression.{Expression, Literal, Name, Apply, Combine, SequenceOf, SetOf, Range, Booleans, Datatype, Nametype, ConstructorOf, Expressions, no_expressions, expression_and}
use Rattle.theory_syntax.specs.Process.{Field, Given, Input, InputFrom, EventExpression, EventSet, Enumeration, Productions, EventUnion, EventIntersection, EventDifference, RenamingPair, Process, Stop, Skip, Omega, Call, Prefix, Guard, If, ExternalChoice, InternalChoice, Sequential, Interleaving, Interrupt, GeneralisedParallel, AlphabetisedParallel, Hiding, Renaming, ReplicatedExternalChoice, ReplicatedInternalChoice, ReplicatedInterleaving, SlidingChoice, Script}
use Rattle.theory_syntax.specs.Types.{Types}
use Rattle.theory_semantics.specs.Meaning.Events.{is_bare}
use Rattle.theory_semantics.specs.Meaning.Substitution.{Bindings, bound, without, name_or, put_expression, put_expressions, put_fields, behind, put_event, put_events, put_event_set, put_pairs, put}
use Rattle.theory_semantics.specs.Kinds.Kind.{Kind, IntKind, BoolKind, DatatypeKind, SequenceKind, SetKind, Kinds, Scope, kind_of_name, Each}
use Rattle.theory_semantics.specs.Kinds.Expressions.{HasKind, AllHaveKind, HaveKinds, HaveFirstKinds}
use Rattle.theory_semantics.specs.Kinds.Events.{FieldsHaveKinds, scope_behind, IsEvent, IsBeginning, IsEventSet, IsPair}
use Rattle.theory_semantics.specs.Kinds.Processes.{IsWellKinded}
use Rattle.theory_semantics.proofs.KindedPutting.{bound_without}

-- no name of the scope has a value
abbrev LeavesNames : Bindings → Scope → Type 0
LeavesNames bs scope = (n : ℕ) (k : Kind) → kind_of_name scope n ≡ Some k → bound bs n ≡ None

leaves_under : (bs : Bindings) (scope : Scope) (n : ℕ) (k : Kind) → LeavesNames bs scope → LeavesNames (without n bs) ((n, k) ∷ scope)
leaves_under bs scope n k leaves m j e = bound_without n m bs ∙ by_test (nat_eq n m) e
  where
    by_test : (t : Bool) → cond t (Some k) (kind_of_name scope m) ≡ Some j → cond t None (bound bs m) ≡ None
    by_test true f = refl
    by_test false f = leaves m j f

module _ (types : Types) (kinds : Kinds) where
  module _ (bs : Bindings) (scope : Scope) (leaves : LeavesNames bs scope) where
    mutual
      kept_expression : (e : Expression) (k : Kind) → HasKind types kinds scope e k → put_expression bs e ≡ e
      kept_expression (Literal v) k h = refl
      kept_expression (Name n) k h = ap (λ o. name_or o n) (leaves n k h)
      kept_expression (Apply op e) k h = ap (Apply op) (kept_expression e h.0 h.2)
      kept_expression (Combine op e f) k h = ap₂ (Combine op) (kept_expression e h.0 h.3) (kept_expression f h.1 h.4)
      kept_expression (SequenceOf es) (SequenceKind k) h = ap SequenceOf (kept_expressions es k h)
      kept_expression (SetOf es) (SetKind k) h = ap SetOf (kept_expressions es k h)
      kept_expression (Range e f) (SetKind IntKind) h = ap₂ Range (kept_expression e IntKind h.0) (kept_expression f IntKind h.1)
      kept_expression Booleans k h = refl
      kept_expression (Datatype d) k h = refl
      kept_expression (Nametype n) k h = refl
      kept_expression (ConstructorOf c es) (DatatypeKind d) h = ap (ConstructorOf c) (kept_in_turn es h.1.0 h.1.2)
      kept_expression _ _ h = absurd h

      kept_expressions : (es : Expressions) (k : Kind) → AllHaveKind types kinds scope es k → put_expressions bs es ≡ es
      kept_expressions no_expressions k h = refl
      kept_expressions (expression_and e es) k h = ap₂ expression_and (kept_expression e k h.0) (kept_expressions es k h.1)

      kept_in_turn : (es : Expressions) (ks : List Kind) → HaveKinds types kinds scope es ks → put_expressions bs es ≡ es
      kept_in_turn no_expressions ks h = refl
      kept_in_turn (expression_and e es) [] h = absurd h
      kept_in_turn (expression_and e es) (k ∷ ks) h = ap₂ expression_and (kept_expression e k h.0) (kept_in_turn es ks h.1)

    kept_first : (es : Expressions) (ks : List Kind) → HaveFirstKinds types kinds scope es ks → put_expressions bs es ≡ es
    kept_first no_expressions ks h = refl
    kept_first (expression_and e es) [] h = absurd h
    kept_first (expression_and e es) (k ∷ ks) h = ap₂ expression_and (kept_expression e k h.0) (kept_first es ks h.1)

    kept_event : (e : EventExpression) → IsEvent types kinds scope e → put_event bs e ≡ e
    kept_event e h = λ i. record { channel = e.channel; fields = kept_in_turn e.fields h.0 h.2 i }

    kept_events : (es : List EventExpression) → Each (IsEvent types kinds scope) es → put_events bs es ≡ es
    kept_events [] h = refl
    kept_events (e ∷ es) h = ap₂ (λ f fs. f ∷ fs) (kept_event e h.0) (kept_events es h.1)

    kept_beginnings : (es : List EventExpression) → Each (IsBeginning types kinds scope) es → put_events bs es ≡ es
    kept_beginnings [] h = refl
    kept_beginnings (e ∷ es) h = λ i. record { channel = e.channel; fields = kept_first e.fields h.0.0 h.0.2 i } ∷ kept_beginnings es h.1 i

    kept_event_set : (a : EventSet) → IsEventSet types kinds scope a → put_event_set bs a ≡ a
    kept_event_set (Enumeration es) h = ap Enumeration (kept_events es h)
    kept_event_set (Productions es) h = ap Productions (kept_beginnings es h)
    kept_event_set (EventUnion a b) h = ap₂ EventUnion (kept_event_set a h.0) (kept_event_set b h.1)
    kept_event_set (EventIntersection a b) h = ap₂ EventIntersection (kept_event_set a h.0) (kept_event_set b h.1)
    kept_event_set (EventDifference a b) h = ap₂ EventDifference (kept_event_set a h.0) (kept_event_set b h.1)

    kept_bare : (e : EventExpression) → is_bare e ≡ true → put_event bs e ≡ e
    kept_bare e bare = λ i. record { channel = e.channel; fields = by_fields e.fields bare i }
      where
        by_fields : (es : Expressions) → is_bare (record { channel = e.channel; fields = es }) ≡ true → put_expressions bs es ≡ es
        by_fields no_expressions b = refl
        by_fields (expression_and f fs) b = absurd (cc b)

  kept_fields : (bs : Bindings) (scope : Scope) (fs : List Field) (ks : List Kind) → LeavesNames bs scope → FieldsHaveKinds types kinds scope fs ks → put_fields bs fs ≡ fs
  kept_fields bs scope [] [] leaves h = refl
  kept_fields bs scope (Given e ∷ fs) (k ∷ ks) leaves h = ap₂ (λ f gs. Given f ∷ gs) (kept_expression bs scope leaves e k h.0) (kept_fields bs scope fs ks leaves h.1)
  kept_fields bs scope (Input n ∷ fs) (k ∷ ks) leaves h = ap (λ gs. Input n ∷ gs) (kept_fields (without n bs) ((n, k) ∷ scope) fs ks (leaves_under bs scope n k leaves) h)
  kept_fields bs scope (InputFrom n e ∷ fs) (k ∷ ks) leaves h =
      ap₂ (λ f gs. InputFrom n f ∷ gs) (kept_expression bs scope leaves e (SetKind k) h.0) (kept_fields (without n bs) ((n, k) ∷ scope) fs ks (leaves_under bs scope n k leaves) h.1)
  kept_fields bs scope _ _ leaves h = absurd h

  leaves_behind : (bs : Bindings) (scope : Scope) (fs : List Field) (ks : List Kind) → LeavesNames bs scope → FieldsHaveKinds types kinds scope fs ks →
      LeavesNames (behind bs fs) (scope_behind scope fs ks)
  leaves_behind bs scope [] [] leaves h = leaves
  leaves_behind bs scope (Given e ∷ fs) (k ∷ ks) leaves h = leaves_behind bs scope fs ks leaves h.1
  leaves_behind bs scope (Input n ∷ fs) (k ∷ ks) leaves h = leaves_behind (without n bs) ((n, k) ∷ scope) fs ks (leaves_under bs scope n k leaves) h
  leaves_behind bs scope (InputFrom n e ∷ fs) (k ∷ ks) leaves h = leaves_behind (without n bs) ((n, k) ∷ scope) fs ks (leaves_under bs scope n k leaves) h.1
  leaves_behind bs scope _ _ leaves h = absurd h

module _ (script : Script) (kinds : Kinds) where
  kept_pair : (bs : Bindings) (scope : Scope) → LeavesNames bs scope → (r : RenamingPair) → IsPair script kinds scope r → (put_event bs r.from ≡ r.from) × (put_event bs r.to ≡ r.to)
  kept_pair bs scope leaves r (inl h) = (kept_event script.types kinds bs scope leaves r.from h.0, kept_event script.types kinds bs scope leaves r.to h.1)
  kept_pair bs scope leaves r (inr h) = (kept_bare script.types kinds bs scope leaves r.from h.0, kept_bare script.types kinds bs scope leaves r.to h.1)

  kept_pairs : (bs : Bindings) (scope : Scope) → LeavesNames bs scope → (rs : List RenamingPair) → Each (IsPair script kinds scope) rs → put_pairs bs rs ≡ rs
  kept_pairs bs scope leaves [] h = refl
  kept_pairs bs scope leaves (r ∷ rs) h = let both = kept_pair bs scope leaves r h.0 in λ i. record { from = both.0 i; to = both.1 i } ∷ kept_pairs bs scope leaves rs h.1 i

  kept : (bs : Bindings) (scope : Scope) (p : Process) → LeavesNames bs scope → IsWellKinded script kinds scope p → put bs p ≡ p
  kept bs scope Stop leaves h = refl
  kept bs scope Skip leaves h = refl
  kept bs scope Omega leaves h = refl
  kept bs scope (Call n es) leaves h = ap (Call n) (kept_in_turn script.types kinds bs scope leaves es h.0 h.2)
  kept bs scope (Prefix c fs p) leaves h =
      ap₂ (Prefix c) (kept_fields script.types kinds bs scope fs h.0 leaves h.2) (kept (behind bs fs) (scope_behind scope fs h.0) p (leaves_behind script.types kinds bs scope fs h.0 leaves h.2) h.3)
  kept bs scope (Guard e p) leaves h = ap₂ Guard (kept_expression script.types kinds bs scope leaves e BoolKind h.0) (kept bs scope p leaves h.1)
  kept bs scope (If e p q) leaves h = let f = kept_expression script.types kinds bs scope leaves e BoolKind h.0 in let g = kept bs scope p leaves h.1 in
      let i = kept bs scope q leaves h.2 in λ j. If (f j) (g j) (i j)
  kept bs scope (ExternalChoice p q) leaves h = ap₂ ExternalChoice (kept bs scope p leaves h.0) (kept bs scope q leaves h.1)
  kept bs scope (InternalChoice p q) leaves h = ap₂ InternalChoice (kept bs scope p leaves h.0) (kept bs scope q leaves h.1)
  kept bs scope (Sequential p q) leaves h = ap₂ Sequential (kept bs scope p leaves h.0) (kept bs scope q leaves h.1)
  kept bs scope (Interleaving p q) leaves h = ap₂ Interleaving (kept bs scope p leaves h.0) (kept bs scope q leaves h.1)
  kept bs scope (Interrupt p q) leaves h = ap₂ Interrupt (kept bs scope p leaves h.0) (kept bs scope q leaves h.1)
  kept bs scope (GeneralisedParallel p a q) leaves h =
      let f = kept bs scope p leaves h.0 in let g = kept_event_set script.types kinds bs scope leaves a h.1 in let i = kept bs scope q leaves h.2 in λ j. GeneralisedParallel (f j) (g j) (i j)
  kept bs scope (AlphabetisedParallel p a b q) leaves h =
      let f = kept bs scope p leaves h.0 in let g = kept_event_set script.types kinds bs scope leaves a h.1 in let k = kept_event_set script.types kinds bs scope leaves b h.2 in
      let i = kept bs scope q leaves h.3 in λ j. AlphabetisedParallel (f j) (g j) (k j) (i j)
  kept bs scope (Hiding p a) leaves h = ap₂ Hiding (kept bs scope p leaves h.0) (kept_event_set script.types kinds bs scope leaves a h.1)
  kept bs scope (Renaming p rs) leaves h = ap₂ Renaming (kept bs scope p leaves h.0) (kept_pairs bs scope leaves rs h.1)
  kept bs scope (ReplicatedExternalChoice n e p) leaves h =
      ap₂ (ReplicatedExternalChoice n) (kept_expression script.types kinds bs scope leaves e (SetKind h.0) h.1) (kept (without n bs) ((n, h.0) ∷ scope) p (leaves_under bs scope n h.0 leaves) h.2)
  kept bs scope (ReplicatedInternalChoice n e p) leaves h =
      ap₂ (ReplicatedInternalChoice n) (kept_expression script.types kinds bs scope leaves e (SetKind h.0) h.1) (kept (without n bs) ((n, h.0) ∷ scope) p (leaves_under bs scope n h.0 leaves) h.2)
  kept bs scope (ReplicatedInterleaving n e p) leaves h =
      ap₂ (ReplicatedInterleaving n) (kept_expression script.types kinds bs scope leaves e (SetKind h.0) h.1) (kept (without n bs) ((n, h.0) ∷ scope) p (leaves_under bs scope n h.0 leaves) h.2)
  kept bs scope (SlidingChoice p q) leaves h = ap₂ SlidingChoice (kept bs scope p leaves h.0) (kept bs scope q leaves h.1)

  -- a closed term has no free name
  pub kept_closed : (bs : Bindings) (t : Process) → IsWellKinded script kinds [] t → put bs t ≡ t
  kept_closed bs t h = kept bs [] t (λ n k e. absurd (cc e)) h
