-- The equations of fields, sets of events, renamings and processes ask for their kinds.
use Rattle.std.proofs.Common.{◌≡◌, ℕ, suc, ◌≤◌, ◌<◌, Bool, true, false, ◌&&◌, cond, List, [], ◌∷◌, ◌++◌, map, slice_get, Option, Some, None, refl, sym, ◌∙◌, ap, ap₂, subst, inl, inr, arith}
use Rattle.std.specs.Prelude.{⊤, option_map, IsTrue}
use Rattle.std.specs.declared.cmp.Ordering.TheVariants.{Equal}
use Rattle.std.specs.Ordering.{is_eq}
use Rattle.std.specs.Cmp.Lexicographic.{slice_cmp}
use Rattle.std.specs.FinMap.{slice_cmp-IsAntisymmetric}
use Rattle.std.proofs.lemmas.Option.{slice_get-map}
use Rattle.theory_syntax.specs.Value.{Value, value_cmp}
use Rattle.theory_syntax.specs.Expression.{Expression, Expressions}
use Rattle.theory_syntax.specs.Process.{Field, Given, Input, InputFrom, EventExpression, EventSet, Enumeration, Productions, EventUnion, EventIntersection, EventDifference, RenamingPair, Process, Stop, Skip, Omega, Call, Prefix, Guard, If, ExternalChoice, InternalChoice, Sequential, Interleaving, Interrupt, GeneralisedParallel, AlphabetisedParallel, Hiding, Renaming, ReplicatedExternalChoice, ReplicatedInternalChoice, ReplicatedInterleaving, SlidingChoice, Script}
use Rattle.theory_syntax.specs.Types.{Types}
use Rattle.theory_semantics.specs.Meaning.Events.{is_bare}
use Rattle.theory_semantics.specs.Kinds.Kind.{Kind, SetKind, Kinds, Scope, Each}
use Rattle.theory_semantics.specs.Kinds.Expressions.{HasKind, HaveKinds, HaveFirstKinds}
use Rattle.theory_semantics.specs.Kinds.Events.{FieldsHaveKinds, scope_behind, IsEvent, IsBeginning, IsEventSet, HaveSameSets, IsPair}
use Rattle.theory_semantics.specs.Kinds.Processes.{IsWellKinded}
use Rattle.theory_semantics.proofs.KindedTerms.{sets_refl}
use Rattle.theory_checking.specs.Inference.Chain.{BoolEnd, OpenEnd, SetOver, Assignment, assign, AgreeBelow}
use Rattle.theory_checking.specs.Inference.State.{KindEquation}
use Rattle.theory_checking.specs.Inference.Equations.{Ask, when, Numbering, kinds_under, Numbered, scope_under, IsBelow, NamesBelow, AreOwners}
use Rattle.theory_checking.specs.Inference.Expressions.{behind_expression, behind_expressions, of_expression, of_all, of_first}
use Rattle.theory_checking.specs.Inference.Processes.{behind_fields, behind_event, behind_events, behind_event_set, behind_pairs, behind_process, of_fields, names_behind, of_event, of_beginning, of_events, of_beginnings, of_event_set, are_same_sets, are_bare_alike, of_pair, of_pairs, of_process}
use Rattle.theory_syntax.proofs.Equalities.{value_same, is_eq-Equal}
use Rattle.theory_checking.proofs.Asking.{below_more, each_less, fixed_numbers, assigned, assigned_above, Hangs, ask_nothing, ask_both, ask_more, ask_same, ask_never, ask_when}
use Rattle.theory_semantics.proofs.Misfits.{each_got}
use Rattle.theory_checking.proofs.AskingExpressions.{InUse, in_use_more, hangs, Kinded, expression_asks, expressions_asks, all_asks, first_asks}

-- ---- what is found by a number

row_kinds : (a : Assignment) (rows : List (List ℕ)) (c : ℕ) → slice_get (map (map a) rows) c ≡ option_map (map a) (slice_get rows c)
row_kinds a rows c = slice_get-map (map a) rows c

pub ask_found : (n p : ℕ) (rows : List (List ℕ)) (c : ℕ) (f : List ℕ → List KindEquation) (P : Assignment → List Kind → Type 0) → n ≤ p →
    ((ms : List ℕ) → slice_get rows c ≡ Some ms → Ask n (f ms) p (λ a. P a (map a ms))) →
    Ask n (when (slice_get rows c) f) p (λ a. (ks : List Kind) × (slice_get (map (map a) rows) c ≡ Some ks) × P a ks)
ask_found n p rows c f P le found = ask_when n p (slice_get rows c) f (λ a. (ks : List Kind) × (slice_get (map (map a) rows) c ≡ Some ks) × P a ks) le
    (λ ms is. ask_same n p (f ms) (λ a. P a (map a ms)) (λ a. (ks : List Kind) × (slice_get (map (map a) rows) c ≡ Some ks) × P a ks) (found ms is)
    (λ a h. (map a ms, row_kinds a rows c ∙ ap (option_map (map a)) is, h))
    (λ a x.
    let e : Some x.0 ≡ Some (map a ms) = sym x.1 ∙ row_kinds a rows c ∙ ap (option_map (map a)) is in
    let same : x.0 ≡ map a ms = cc e in subst (P a) same x.2))
    (λ none a x.
    let e : Some x.0 ≡ None = sym x.1 ∙ row_kinds a rows c ∙ ap (option_map (map a)) none in cc e)

-- ---- bare channels with the same sets

sets_same : (s t : List (List Value)) → slice_cmp (slice_cmp value_cmp) s t ≡ Equal → s ≡ t
sets_same s t e = slice_cmp-IsAntisymmetric (slice_cmp-IsAntisymmetric value_same) s t e

alike_sets : (x y : Option (List (List Value))) → are_same_sets x y ≡ true → (s : List (List Value)) × (x ≡ Some s) × (y ≡ Some s)
alike_sets (Some s) (Some t) e = let same : s ≡ t = sets_same s t (is_eq-Equal (slice_cmp (slice_cmp value_cmp) s t) e) in (s, refl, ap Some (sym same))
alike_sets None None e = absurd (cc e)
alike_sets None (Some t) e = absurd (cc e)
alike_sets (Some s) None e = absurd (cc e)

sets_alike : (x y : Option (List (List Value))) (s : List (List Value)) → x ≡ Some s → y ≡ Some s → are_same_sets x y ≡ true
sets_alike x y s e f = ap₂ are_same_sets e f ∙ ap is_eq (sets_refl s)

of_three : (x y z : Bool) → x && y && z ≡ true → (x ≡ true) × (y ≡ true) × (z ≡ true)
of_three true true true e = (refl, refl, refl)
of_three true true false e = absurd (cc e)
of_three true false z e = absurd (cc e)
of_three false y z e = absurd (cc e)

three : (x y z : Bool) → x ≡ true → y ≡ true → z ≡ true → x && y && z ≡ true
three x y z e f g = rw (e, f, g) refl

bare_alike : (script : Script) (r : RenamingPair) → are_bare_alike script r ≡ true → IsTrue (is_bare r.from) × IsTrue (is_bare r.to) × HaveSameSets script r.from.channel r.to.channel
bare_alike script r e =
    let x = of_three (is_bare r.from) (is_bare r.to) (are_same_sets (slice_get script.channels r.from.channel) (slice_get script.channels r.to.channel)) e in
    (x.0, x.1, alike_sets (slice_get script.channels r.from.channel) (slice_get script.channels r.to.channel) x.2)

alike_bare : (script : Script) (r : RenamingPair) → IsTrue (is_bare r.from) → IsTrue (is_bare r.to) → HaveSameSets script r.from.channel r.to.channel → are_bare_alike script r ≡ true
alike_bare script r f g h =
    three (is_bare r.from) (is_bare r.to) (are_same_sets (slice_get script.channels r.from.channel) (slice_get script.channels r.to.channel)) f g
    (sets_alike (slice_get script.channels r.from.channel) (slice_get script.channels r.to.channel) h.0 h.1 h.2)

-- ---- scopes

behind_same : (a : Assignment) (names : Numbered) (fs : List Field) (ms : List ℕ) → scope_behind (scope_under a names) fs (map a ms) ≡ scope_under a (names_behind names fs ms)
behind_same a names [] [] = refl
behind_same a names [] (m ∷ ms) = refl
behind_same a names (Given e ∷ fs) (m ∷ ms) = behind_same a names fs ms
behind_same a names (Input x ∷ fs) (m ∷ ms) = behind_same a ((x, m) ∷ names) fs ms
behind_same a names (InputFrom x e ∷ fs) (m ∷ ms) = behind_same a ((x, m) ∷ names) fs ms
behind_same a names (Given e ∷ fs) [] = refl
behind_same a names (Input x ∷ fs) [] = refl
behind_same a names (InputFrom x e ∷ fs) [] = refl

names_behind_below : (n : ℕ) (names : Numbered) (fs : List Field) (ms : List ℕ) → NamesBelow n names → Each (λ m. m < n) ms → NamesBelow n (names_behind names fs ms)
names_behind_below n names [] [] h g = h
names_behind_below n names [] (m ∷ ms) h g = h
names_behind_below n names (Given e ∷ fs) (m ∷ ms) h g = names_behind_below n names fs ms h g.1
names_behind_below n names (Input x ∷ fs) (m ∷ ms) h g = names_behind_below n ((x, m) ∷ names) fs ms (g.0, h) g.1
names_behind_below n names (InputFrom x e ∷ fs) (m ∷ ms) h g = names_behind_below n ((x, m) ∷ names) fs ms (g.0, h) g.1
names_behind_below n names (Given e ∷ fs) [] h g = h
names_behind_below n names (Input x ∷ fs) [] h g = h
names_behind_below n names (InputFrom x e ∷ fs) [] h g = h

-- ---- more parts than two

module _ (n m p q : ℕ) (es fs gs : List KindEquation) (D E F : Assignment → Type 0) where
  ask_three : Ask n es m D → Ask m fs p E → Hangs n E → Ask p gs q F → Hangs n F → Ask n (es ++ fs ++ gs) q (λ a. D a × E a × F a)
  ask_three d e e_hangs f f_hangs =
      ask_same n q (es ++ fs ++ gs) (λ a. (D a × E a) × F a) (λ a. D a × E a × F a)
      (ask_both n p q (es ++ fs) gs (λ a. D a × E a) F (ask_both n m p es fs D E d e e_hangs) f f_hangs) (λ a x. (x.0.0, x.0.1, x.1))
      (λ a x. ((x.0, x.1), x.2))

  ask_four : (r : ℕ) (hs : List KindEquation) (G : Assignment → Type 0) → Ask n es m D → Ask m fs p E → Hangs n E → Ask p gs q F → Hangs n F → Ask q hs r G →
      Hangs n G → Ask n (es ++ fs ++ gs ++ hs) r (λ a. D a × E a × F a × G a)
  ask_four r hs G d e e_hangs f f_hangs h h_hangs =
      ask_same n r (es ++ fs ++ gs ++ hs) (λ a. (D a × E a × F a) × G a) (λ a. D a × E a × F a × G a)
      (ask_both n q r (es ++ fs ++ gs) hs (λ a. D a × E a × F a) G (ask_three d e e_hangs f f_hangs) h h_hangs)
      (λ a x. (x.0.0, x.0.1, x.0.2, x.1)) (λ a x. ((x.0, x.1, x.2), x.3))

-- nothing is asked for, and some numbers are left out
ask_free : (n p : ℕ) → n ≤ p → Ask n [] p (λ a. ⊤)
ask_free n p le = record {
  rising = le;
  settled = λ a b agree h. tt;
  sound = λ a h. tt;
  complete = λ a h. (a, λ k small. refl, tt);
}

module _ (types : Types) (o : Numbering) (owners : AreOwners types o) where
  rises : (n : ℕ) (e : Expression) → IsBelow n o → n ≤ behind_expression n e
  rises n e below = (expression_asks types o owners [] n e BoolEnd (below, tt) (λ a b agree. refl)).rising

  pub fields_rise : (n : ℕ) (fs : List Field) → IsBelow n o → n ≤ behind_fields n fs
  fields_rise n [] below = omega arith
  fields_rise n (Given e ∷ fs) below =
      let le : n ≤ behind_expression n e = rises n e below in
      let lf : behind_expression n e ≤ behind_fields (behind_expression n e) fs = fields_rise (behind_expression n e) fs (below_more n (behind_expression n e) o le below) in omega arith
  fields_rise n (Input x ∷ fs) below = fields_rise n fs below
  fields_rise n (InputFrom x e ∷ fs) below =
      let le : n ≤ behind_expression n e = rises n e below in
      let lf : behind_expression n e ≤ behind_fields (behind_expression n e) fs = fields_rise (behind_expression n e) fs (below_more n (behind_expression n e) o le below) in omega arith

  -- the fields have the kinds with these numbers
  abbrev FieldsKinded : Numbered → List Field → List ℕ → Assignment → Type 0
  FieldsKinded names fs ms a = FieldsHaveKinds types (kinds_under a o) (scope_under a names) fs (map a ms)

  fields_hang : (n : ℕ) (names : Numbered) (fs : List Field) (ms : List ℕ) → InUse types o owners n names → Each (λ m. m < n) ms → Hangs n (FieldsKinded names fs ms)
  fields_hang n names fs ms g small = hangs types o owners n names (λ K S ks. FieldsHaveKinds types K S fs ks) (λ a. map a ms) g (fixed_numbers n ms small)

  pub fields_asks : (n : ℕ) (names : Numbered) (fs : List Field) (ms : List ℕ) → InUse types o owners n names → Each (λ m. m < n) ms →
      Ask n (of_fields types o n names fs ms) (behind_fields n fs) (FieldsKinded names fs ms)
  fields_asks n names [] [] g small = ask_nothing n
  fields_asks n names [] (m ∷ ms) g small = ask_never n n _ (omega arith) (λ a h. h)
  fields_asks n names (Given e ∷ fs) [] g small = ask_never n (behind_fields n (Given e ∷ fs)) _ (fields_rise n (Given e ∷ fs) g.0) (λ a h. h)
  fields_asks n names (Input x ∷ fs) [] g small = ask_never n (behind_fields n (Input x ∷ fs)) _ (fields_rise n (Input x ∷ fs) g.0) (λ a h. h)
  fields_asks n names (InputFrom x e ∷ fs) [] g small = ask_never n (behind_fields n (InputFrom x e ∷ fs)) _ (fields_rise n (InputFrom x e ∷ fs) g.0) (λ a h. h)
  fields_asks n names (Given e ∷ fs) (m ∷ ms) g small =
      let p = behind_expression n e in
      let first = expression_asks types o owners names n e (OpenEnd m) g (λ a b agree. agree m small.0) in
      ask_both n p (behind_fields p fs) (of_expression types o n names e (OpenEnd m)) (of_fields types o p names fs ms) (Kinded types o owners names e (OpenEnd m)) (FieldsKinded names fs ms) first
      (fields_asks p names fs ms (in_use_more types o owners n p names first.rising g) (each_less n p ms first.rising small.1)) (fields_hang n names fs ms g small.1)
  fields_asks n names (Input x ∷ fs) (m ∷ ms) g small = fields_asks n ((x, m) ∷ names) fs ms (g.0, (small.0, g.1)) small.1
  fields_asks n names (InputFrom x e ∷ fs) (m ∷ ms) g small =
      let p = behind_expression n e in
      let more : InUse types o owners n ((x, m) ∷ names) = (g.0, (small.0, g.1)) in
      let first = expression_asks types o owners names n e (SetOver (OpenEnd m)) g (λ a b agree. ap SetKind (agree m small.0)) in
      ask_both n p (behind_fields p fs) (of_expression types o n names e (SetOver (OpenEnd m))) (of_fields types o p ((x, m) ∷ names) fs ms)
      (Kinded types o owners names e (SetOver (OpenEnd m))) (FieldsKinded ((x, m) ∷ names) fs ms) first
      (fields_asks p ((x, m) ∷ names) fs ms (in_use_more types o owners n p ((x, m) ∷ names) first.rising more) (each_less n p ms first.rising small.1))
      (fields_hang n ((x, m) ∷ names) fs ms more small.1)

  module _ (names : Numbered) where
    all_rise : (n : ℕ) (es : Expressions) → InUse types o owners n names → n ≤ behind_expressions n es
    all_rise n es g = (expressions_asks types o owners names n es BoolEnd g (λ a b agree. refl)).rising

    pub event_asks : (n : ℕ) (e : EventExpression) → InUse types o owners n names → Ask n (of_event types o n names e) (behind_event n e) (λ a. IsEvent types (kinds_under a o) (scope_under a names) e)
    event_asks n e g =
        ask_found n (behind_event n e) o.channels e.channel (of_all types o n names e.fields) (λ a ks. HaveKinds types (kinds_under a o) (scope_under a names) e.fields ks) (all_rise n e.fields g)
        (λ ms is. all_asks types o owners names n e.fields ms g (each_got (Each (λ m. m < n)) o.channels e.channel ms g.0.channels is))

    beginning_asks : (n : ℕ) (e : EventExpression) → InUse types o owners n names →
        Ask n (of_beginning types o n names e) (behind_event n e) (λ a. IsBeginning types (kinds_under a o) (scope_under a names) e)
    beginning_asks n e g =
        ask_found n (behind_event n e) o.channels e.channel (of_first types o n names e.fields)
        (λ a ks. HaveFirstKinds types (kinds_under a o) (scope_under a names) e.fields ks) (all_rise n e.fields g)
        (λ ms is. first_asks types o owners names n e.fields ms g (each_got (Each (λ m. m < n)) o.channels e.channel ms g.0.channels is))

    pub named_hangs : (n : ℕ) (P : Kinds → Scope → Type 0) → InUse types o owners n names → Hangs n (λ a. P (kinds_under a o) (scope_under a names))
    named_hangs n P g = hangs types o owners n names (λ K S x. P K S) (λ a. n) g (λ a b agree. refl)

    events_asks : (n : ℕ) (es : List EventExpression) → InUse types o owners n names →
        Ask n (of_events types o n names es) (behind_events n es) (λ a. Each (IsEvent types (kinds_under a o) (scope_under a names)) es)
    events_asks n [] g = ask_nothing n
    events_asks n (e ∷ es) g =
        let p = behind_event n e in
        let first = event_asks n e g in
        ask_both n p (behind_events p es) (of_event types o n names e) (of_events types o p names es)
        (λ a. IsEvent types (kinds_under a o) (scope_under a names) e) (λ a. Each (IsEvent types (kinds_under a o) (scope_under a names)) es) first
        (events_asks p es (in_use_more types o owners n p names first.rising g)) (named_hangs n (λ K S. Each (IsEvent types K S) es) g)

    beginnings_asks : (n : ℕ) (es : List EventExpression) → InUse types o owners n names →
        Ask n (of_beginnings types o n names es) (behind_events n es) (λ a. Each (IsBeginning types (kinds_under a o) (scope_under a names)) es)
    beginnings_asks n [] g = ask_nothing n
    beginnings_asks n (e ∷ es) g =
        let p = behind_event n e in
        let first = beginning_asks n e g in
        ask_both n p (behind_events p es) (of_beginning types o n names e) (of_beginnings types o p names es)
        (λ a. IsBeginning types (kinds_under a o) (scope_under a names) e) (λ a. Each (IsBeginning types (kinds_under a o) (scope_under a names)) es) first
        (beginnings_asks p es (in_use_more types o owners n p names first.rising g)) (named_hangs n (λ K S. Each (IsBeginning types K S) es) g)

    abbrev SetKinded : EventSet → Assignment → Type 0
    SetKinded s a = IsEventSet types (kinds_under a o) (scope_under a names) s

    pub set_hangs : (n : ℕ) (s : EventSet) → InUse types o owners n names → Hangs n (λ a. IsEventSet types (kinds_under a o) (scope_under a names) s)
    set_hangs n s g = named_hangs n (λ K S. IsEventSet types K S s) g

    two_sets : (n : ℕ) (s t : EventSet) → InUse types o owners n names → Ask n (of_event_set types o n names s) (behind_event_set n s) (SetKinded s) →
        ((p : ℕ) → InUse types o owners p names → Ask p (of_event_set types o p names t) (behind_event_set p t) (SetKinded t)) →
        Ask n (of_event_set types o n names s ++ of_event_set types o (behind_event_set n s) names t) (behind_event_set (behind_event_set n s) t) (λ a. SetKinded s a × SetKinded t a)
    two_sets n s t g first second =
        let p = behind_event_set n s in
        ask_both n p (behind_event_set p t) (of_event_set types o n names s) (of_event_set types o p names t) (SetKinded s) (SetKinded t) first
        (second p (in_use_more types o owners n p names first.rising g)) (set_hangs n t g)

    pub set_asks : (n : ℕ) (s : EventSet) → InUse types o owners n names →
        Ask n (of_event_set types o n names s) (behind_event_set n s) (λ a. IsEventSet types (kinds_under a o) (scope_under a names) s)
    set_asks n (Enumeration es) g = events_asks n es g
    set_asks n (Productions es) g = beginnings_asks n es g
    set_asks n (EventUnion s t) g = two_sets n s t g (set_asks n s g) (λ p h. set_asks p t h)
    set_asks n (EventIntersection s t) g = two_sets n s t g (set_asks n s g) (λ p h. set_asks p t h)
    set_asks n (EventDifference s t) g = two_sets n s t g (set_asks n s g) (λ p h. set_asks p t h)

module _ (script : Script) (o : Numbering) (owners : AreOwners script.types o) where
  pub pair_asks : (n : ℕ) (names : Numbered) (r : RenamingPair) → InUse script.types o owners n names →
      Ask n (of_pair script o n names r) (behind_event (behind_event n r.from) r.to) (λ a. IsPair script (kinds_under a o) (scope_under a names) r)
  pair_asks n names r g = by_test (are_bare_alike script r) refl
    where
      both : Ask n (of_event script.types o n names r.from ++ of_event script.types o (behind_event n r.from) names r.to) (behind_event (behind_event n r.from) r.to)
          (λ a. IsEvent script.types (kinds_under a o) (scope_under a names) r.from × IsEvent script.types (kinds_under a o) (scope_under a names) r.to)
      both =
          let first = event_asks script.types o owners names n r.from g in
          ask_both n (behind_event n r.from) (behind_event (behind_event n r.from) r.to) (of_event script.types o n names r.from) (of_event script.types o (behind_event n r.from) names r.to)
          (λ a. IsEvent script.types (kinds_under a o) (scope_under a names) r.from) (λ a. IsEvent script.types (kinds_under a o) (scope_under a names) r.to) first
          (event_asks script.types o owners names (behind_event n r.from) r.to
          (in_use_more script.types o owners n (behind_event n r.from) names first.rising g))
          (named_hangs script.types o owners names n (λ K S. IsEvent script.types K S r.to) g)

      by_test : (t : Bool) → are_bare_alike script r ≡ t →
          Ask n (cond t [] (of_event script.types o n names r.from ++ of_event script.types o (behind_event n r.from) names r.to))
          (behind_event (behind_event n r.from) r.to) (λ a. IsPair script (kinds_under a o) (scope_under a names) r)
      by_test true is = ask_same n (behind_event (behind_event n r.from) r.to) [] (λ a. ⊤) (λ a. IsPair script (kinds_under a o) (scope_under a names) r)
          (ask_free n (behind_event (behind_event n r.from) r.to) both.rising) (λ a x. inr (bare_alike script r is)) (λ a x. tt)
      by_test false is =
          ask_same n (behind_event (behind_event n r.from) r.to) (of_event script.types o n names r.from ++ of_event script.types o (behind_event n r.from) names r.to)
          (λ a. IsEvent script.types (kinds_under a o) (scope_under a names) r.from × IsEvent script.types (kinds_under a o) (scope_under a names) r.to)
          (λ a. IsPair script (kinds_under a o) (scope_under a names) r) both (λ a x. inl x)
          (λ a x. only_events is (kinds_under a o) (scope_under a names) x)
        where
          only_events : are_bare_alike script r ≡ false → (K : Kinds) (S : Scope) → IsPair script K S r → IsEvent script.types K S r.from × IsEvent script.types K S r.to
          only_events is K S (inl x) = x
          only_events is K S (inr x) = absurd (cc (sym is ∙ alike_bare script r x.0 x.1 x.2))

  pub pairs_asks : (n : ℕ) (names : Numbered) (rs : List RenamingPair) → InUse script.types o owners n names →
      Ask n (of_pairs script o n names rs) (behind_pairs n rs) (λ a. Each (IsPair script (kinds_under a o) (scope_under a names)) rs)
  pairs_asks n names [] g = ask_nothing n
  pairs_asks n names (r ∷ rs) g =
      let p = behind_event (behind_event n r.from) r.to in
      let first = pair_asks n names r g in
      ask_both n p (behind_pairs p rs) (of_pair script o n names r) (of_pairs script o p names rs)
      (λ a. IsPair script (kinds_under a o) (scope_under a names) r) (λ a. Each (IsPair script (kinds_under a o) (scope_under a names)) rs) first
      (pairs_asks p names rs (in_use_more script.types o owners n p names first.rising g)) (named_hangs script.types o owners names n (λ K S. Each (IsPair script K S) rs) g)

  -- ---- processes

  -- the process is well-kinded with the kinds of these numbers
  abbrev pub Fits : Numbered → Process → Assignment → Type 0
  Fits names p a = IsWellKinded script (kinds_under a o) (scope_under a names) p

  pub fits_hangs : (n : ℕ) (names : Numbered) (p : Process) → InUse script.types o owners n names → Hangs n (Fits names p)
  fits_hangs n names p g = named_hangs script.types o owners names n (λ K S. IsWellKinded script K S p) g

  -- what is to be shown of a process
  abbrev Asked : Process → Type 0
  Asked p = (n : ℕ) (names : Numbered) → InUse script.types o owners n names → Ask n (of_process script o n names p) (behind_process n p) (Fits names p)

  two_asked : (p q : Process) → Asked p → Asked q → (n : ℕ) (names : Numbered) → InUse script.types o owners n names →
      Ask n (of_process script o n names p ++ of_process script o (behind_process n p) names q) (behind_process (behind_process n p) q) (λ a. Fits names p a × Fits names q a)
  two_asked p q f h n names g =
      let m = behind_process n p in
      let first = f n names g in
      ask_both n m (behind_process m q) (of_process script o n names p) (of_process script o m names q) (Fits names p) (Fits names q) first
      (h m names (in_use_more script.types o owners n m names first.rising g)) (fits_hangs n names q g)

  replicated_asked : (x : ℕ) (e : Expression) (p : Process) → Asked p → (n : ℕ) (names : Numbered) → InUse script.types o owners n names →
      Ask n (of_expression script.types o (suc n) names e (SetOver (OpenEnd n)) ++ of_process script o (behind_expression (suc n) e) ((x, n) ∷ names) p)
      (behind_process (behind_expression (suc n) e) p)
      (λ a. (k : Kind) × HasKind script.types (kinds_under a o) (scope_under a names) e (SetKind k) × IsWellKinded script (kinds_under a o) ((x, k) ∷ scope_under a names) p)
  replicated_asked x e p f n names g =
      let m = behind_expression (suc n) e in
      let more = in_use_more script.types o owners n (suc n) names (omega arith) g in
      let inner : InUse script.types o owners (suc n) ((x, n) ∷ names) = (more.0, (omega arith, more.1)) in
      let first = expression_asks script.types o owners names (suc n) e (SetOver (OpenEnd n)) more (λ a b agree. ap SetKind (agree n (omega arith))) in
      ask_more n (suc n) (behind_process m p) (of_expression script.types o (suc n) names e (SetOver (OpenEnd n)) ++ of_process script o m ((x, n) ∷ names) p)
      (λ a. Kinded script.types o owners names e (SetOver (OpenEnd n)) a × Fits ((x, n) ∷ names) p a)
      (λ a. (k : Kind) × HasKind script.types (kinds_under a o) (scope_under a names) e (SetKind k) × IsWellKinded script (kinds_under a o) ((x, k) ∷ scope_under a names) p) (omega arith)
      (ask_both (suc n) m (behind_process m p) (of_expression script.types o (suc n) names e (SetOver (OpenEnd n))) (of_process script o m ((x, n) ∷ names) p)
      (Kinded script.types o owners names e (SetOver (OpenEnd n))) (Fits ((x, n) ∷ names) p) first
      (f m ((x, n) ∷ names) (in_use_more script.types o owners (suc n) m ((x, n) ∷ names) first.rising inner)) (fits_hangs (suc n) ((x, n) ∷ names) p inner)) (λ a y. (a n, y.0, y.1))
      (λ a y.
      let b = assign n y.0 a in
      let agree : AgreeBelow n a b = assigned_above n y.0 a in (
        b,
        agree,
        (
          subst (λ j. HasKind script.types (kinds_under b o) (scope_under b names) e (SetKind j)) (sym (assigned n y.0 a))
              (named_hangs script.types o owners names n (λ K S. HasKind script.types K S e (SetKind y.0)) g a b agree y.1),
          subst (λ j. IsWellKinded script (kinds_under b o) ((x, j) ∷ scope_under b names) p) (sym (assigned n y.0 a))
              (named_hangs script.types o owners names n (λ K S. IsWellKinded script K ((x, y.0) ∷ S) p) g a b agree y.2),
        ),
      ))

  prefixed : (n : ℕ) (names : Numbered) (c : ℕ) (fs : List Field) (p : Process) (ms : List ℕ) →
      Ask n (of_fields script.types o n names fs ms ++ of_process script o (behind_fields n fs) (names_behind names fs ms) p) (behind_process (behind_fields n fs) p)
      (λ a. FieldsHaveKinds script.types (kinds_under a o) (scope_under a names) fs (map a ms) × IsWellKinded script (kinds_under a o) (scope_under a (names_behind names fs ms)) p) →
      Ask n (of_fields script.types o n names fs ms ++ of_process script o (behind_fields n fs) (names_behind names fs ms) p) (behind_process (behind_fields n fs) p)
      (λ a. FieldsHaveKinds script.types (kinds_under a o) (scope_under a names) fs (map a ms) × IsWellKinded script (kinds_under a o) (scope_behind (scope_under a names) fs (map a ms)) p)
  prefixed n names c fs p ms h =
      ask_same n (behind_process (behind_fields n fs) p) (of_fields script.types o n names fs ms ++ of_process script o (behind_fields n fs) (names_behind names fs ms) p)
      (λ a. FieldsHaveKinds script.types (kinds_under a o) (scope_under a names) fs (map a ms) × IsWellKinded script (kinds_under a o) (scope_under a (names_behind names fs ms)) p)
      (λ a. FieldsHaveKinds script.types (kinds_under a o) (scope_under a names) fs (map a ms) × IsWellKinded script (kinds_under a o) (scope_behind (scope_under a names) fs (map a ms)) p) h
      (λ a x. (x.0, subst (λ S. IsWellKinded script (kinds_under a o) S p) (sym (behind_same a names fs ms)) x.1))
      (λ a x. (x.0, subst (λ S. IsWellKinded script (kinds_under a o) S p) (behind_same a names fs ms) x.1))

  pub process_asks : (n : ℕ) (names : Numbered) (p : Process) → InUse script.types o owners n names →
      Ask n (of_process script o n names p) (behind_process n p) (λ a. IsWellKinded script (kinds_under a o) (scope_under a names) p)
  process_asks n names Stop g = ask_nothing n
  process_asks n names Skip g = ask_nothing n
  process_asks n names Omega g = ask_nothing n
  process_asks n names (Call m es) g =
      ask_found n (behind_expressions n es) o.parameters m (of_all script.types o n names es)
      (λ a ks. HaveKinds script.types (kinds_under a o) (scope_under a names) es ks) (all_rise script.types o owners names n es g)
      (λ ms is. all_asks script.types o owners names n es ms g (each_got (Each (λ i. i < n)) o.parameters m ms g.0.parameters is))
  process_asks n names (Prefix c fs p) g =
      let m = behind_fields n fs in
      let q = behind_process m p in
      let lf : n ≤ m = fields_rise script.types o owners n fs g.0 in
      let lp : m ≤ q = (process_asks m [] p (below_more n m o lf g.0, tt)).rising in
      ask_same n q (of_process script o n names (Prefix c fs p))
      (λ a. (ks : List Kind) × (slice_get (map (map a) o.channels) c ≡ Some ks) ×
      (FieldsHaveKinds script.types (kinds_under a o) (scope_under a names) fs ks × IsWellKinded script (kinds_under a o) (scope_behind (scope_under a names) fs ks) p)) (Fits names (Prefix c fs p))
      (ask_found n q o.channels c (λ ms. of_fields script.types o n names fs ms ++ of_process script o m (names_behind names fs ms) p)
      (λ a ks. FieldsHaveKinds script.types (kinds_under a o) (scope_under a names) fs ks × IsWellKinded script (kinds_under a o) (scope_behind (scope_under a names) fs ks) p) (omega arith) (λ ms is.
      let small = each_got (Each (λ i. i < n)) o.channels c ms g.0.channels is in
      let inner : InUse script.types o owners n (names_behind names fs ms) = (g.0, names_behind_below n names fs ms g.1 small) in
      prefixed n names c fs p ms (ask_both n m q (of_fields script.types o n names fs ms) (of_process script o m (names_behind names fs ms) p)
      (λ a. FieldsHaveKinds script.types (kinds_under a o) (scope_under a names) fs (map a ms)) (Fits (names_behind names fs ms) p)
      (fields_asks script.types o owners n names fs ms g small)
      (process_asks m (names_behind names fs ms) p (in_use_more script.types o owners n m (names_behind names fs ms) lf inner))
      (fits_hangs n (names_behind names fs ms) p inner))))
      (λ a x. (x.0, x.1, x.2.0, x.2.1)) (λ a x. (x.0, x.1, (x.2, x.3)))
  process_asks n names (Guard e p) g =
      let m = behind_expression n e in
      let first = expression_asks script.types o owners names n e BoolEnd g (λ a b agree. refl) in
      ask_both n m (behind_process m p) (of_expression script.types o n names e BoolEnd) (of_process script o m names p) (Kinded script.types o owners names e BoolEnd) (Fits names p) first
      (process_asks m names p (in_use_more script.types o owners n m names first.rising g)) (fits_hangs n names p g)
  process_asks n names (If e p q) g =
      let m = behind_expression n e in
      let r = behind_process m p in
      let first = expression_asks script.types o owners names n e BoolEnd g (λ a b agree. refl) in
      let at_m = in_use_more script.types o owners n m names first.rising g in
      let second = process_asks m names p at_m in
      ask_three n m r (behind_process r q) (of_expression script.types o n names e BoolEnd) (of_process script o m names p) (of_process script o r names q)
      (Kinded script.types o owners names e BoolEnd) (Fits names p) (Fits names q) first second
      (fits_hangs n names p g) (process_asks r names q (in_use_more script.types o owners m r names second.rising at_m)) (fits_hangs n names q g)
  process_asks n names (ExternalChoice p q) g = two_asked p q (λ m xs h. process_asks m xs p h) (λ m xs h. process_asks m xs q h) n names g
  process_asks n names (InternalChoice p q) g = two_asked p q (λ m xs h. process_asks m xs p h) (λ m xs h. process_asks m xs q h) n names g
  process_asks n names (Sequential p q) g = two_asked p q (λ m xs h. process_asks m xs p h) (λ m xs h. process_asks m xs q h) n names g
  process_asks n names (Interleaving p q) g = two_asked p q (λ m xs h. process_asks m xs p h) (λ m xs h. process_asks m xs q h) n names g
  process_asks n names (Interrupt p q) g = two_asked p q (λ m xs h. process_asks m xs p h) (λ m xs h. process_asks m xs q h) n names g
  process_asks n names (GeneralisedParallel p s q) g =
      let m = behind_process n p in
      let r = behind_event_set m s in
      let first = process_asks n names p g in
      let at_m = in_use_more script.types o owners n m names first.rising g in
      let second = set_asks script.types o owners names m s at_m in
      ask_three n m r (behind_process r q) (of_process script o n names p) (of_event_set script.types o m names s) (of_process script o r names q)
      (Fits names p) (λ a. IsEventSet script.types (kinds_under a o) (scope_under a names) s) (Fits names q)
      first second (set_hangs script.types o owners names n s g) (process_asks r names q (in_use_more script.types o owners m r names second.rising at_m)) (fits_hangs n names q g)
  process_asks n names (AlphabetisedParallel p s t q) g =
      let m = behind_process n p in
      let r = behind_event_set m s in
      let u = behind_event_set r t in
      let first = process_asks n names p g in
      let at_m = in_use_more script.types o owners n m names first.rising g in
      let second = set_asks script.types o owners names m s at_m in
      let at_r = in_use_more script.types o owners m r names second.rising at_m in
      let third = set_asks script.types o owners names r t at_r in
      ask_four n m r u (of_process script o n names p) (of_event_set script.types o m names s) (of_event_set script.types o r names t) (Fits names p)
      (λ a. IsEventSet script.types (kinds_under a o) (scope_under a names) s)
      (λ a. IsEventSet script.types (kinds_under a o) (scope_under a names) t) (behind_process u q) (of_process script o u names q) (Fits names q) first second
      (set_hangs script.types o owners names n s g) third (set_hangs script.types o owners names n t g)
      (process_asks u names q (in_use_more script.types o owners r u names third.rising at_r)) (fits_hangs n names q g)
  process_asks n names (Hiding p s) g =
      let m = behind_process n p in
      let first = process_asks n names p g in
      ask_both n m (behind_event_set m s) (of_process script o n names p) (of_event_set script.types o m names s) (Fits names p)
      (λ a. IsEventSet script.types (kinds_under a o) (scope_under a names) s) first
      (set_asks script.types o owners names m s (in_use_more script.types o owners n m names first.rising g)) (set_hangs script.types o owners names n s g)
  process_asks n names (Renaming p rs) g =
      let m = behind_process n p in
      let first = process_asks n names p g in
      ask_both n m (behind_pairs m rs) (of_process script o n names p) (of_pairs script o m names rs) (Fits names p) (λ a. Each (IsPair script (kinds_under a o) (scope_under a names)) rs) first
      (pairs_asks m names rs (in_use_more script.types o owners n m names first.rising g)) (named_hangs script.types o owners names n (λ K S. Each (IsPair script K S) rs) g)
  process_asks n names (ReplicatedExternalChoice x e p) g = replicated_asked x e p (λ m xs h. process_asks m xs p h) n names g
  process_asks n names (ReplicatedInternalChoice x e p) g = replicated_asked x e p (λ m xs h. process_asks m xs p h) n names g
  process_asks n names (ReplicatedInterleaving x e p) g = replicated_asked x e p (λ m xs h. process_asks m xs p h) n names g
  process_asks n names (SlidingChoice p q) g = two_asked p q (λ m xs h. process_asks m xs p h) (λ m xs h. process_asks m xs q h) n names g
