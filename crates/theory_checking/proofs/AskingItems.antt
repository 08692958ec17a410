-- The equations of sets, equations and assertions ask that kinds fit them.
use Rattle.std.proofs.Common.{◌≡◌, ℕ, zero, suc, ◌+◌, ◌≤◌, ◌<◌, nat_eq, Bool, true, false, cond, List, [], ◌∷◌, ◌++◌, append-nil, length, map, slice_get, Option, Some, None, IfSome, refl, sym, ◌∙◌, ap, ap₂, subst, inl, inr, arith}
use Rattle.std.specs.Prelude.{◌⊎◌, flat_map}
use Rattle.std.proofs.lemmas.Bool.{eqb-true, eqb-false}
use Rattle.theory_syntax.specs.Expression.{Expression}
use Rattle.theory_syntax.specs.Process.{Process, Equation, specification_of, Assertion, Script}
use Rattle.theory_syntax.specs.Types.{Types}
use Rattle.theory_semantics.specs.Kinds.Kind.{Kind, IntKind, SetKind, Kinds, scope_of, InTurn, Each}
use Rattle.theory_semantics.specs.Kinds.Processes.{IsWellKinded, IsClosedTerm}
use Rattle.theory_semantics.specs.Kinds.Scripts.{IsWellKindedEquation, IsWellKindedAssertion}
use Rattle.theory_text.specs.Raw.{RawScript}
use Rattle.theory_checking.specs.Sets.{nametype_sets, constructor_sets, channel_sets, types_of, IsSetOf, FitSets}
use Rattle.theory_checking.specs.Rules.{parameters_declared, SomeFit}
use Rattle.theory_checking.specs.Fitting.{Item, EquationItem, AssertionItem, FitsItem, FitKinds, IsMisfit, misfit}
use Rattle.theory_checking.specs.Inference.Chain.{BoolEnd, OpenEnd, SetOver, Assignment, assign, AgreeBelow}
use Rattle.theory_checking.specs.Inference.State as state
use Rattle.theory_checking.specs.Inference.Equations.{Ask, never, when, Numbering, kinds_under, scope_under, IsBelow, NamesBelow, AreOwners}
use Rattle.theory_checking.specs.Inference.Expressions.{behind_expression}
use Rattle.theory_checking.specs.Inference.Processes.{behind_process, of_process}
use Rattle.theory_checking.specs.Inference.Items.{of_specification, behind_specification, behind_assertion, behind_set, of_set, behind_sets, of_sets, behind_rows, of_rows, numbered, of_equation, of_assertion, behind_item, of_item, behind_items, of_items, HaveShape, AreNumbersFor, numbers_from, rows_from, behind_all, behind_nametypes, behind_constructors, behind_channels, numbers_of, next_number}
use Rattle.theory_checking.specs.Laws.FittingKinds.{behind_first, behind_second, of_tree, behind_tree}
use Rattle.std.proofs.lemmas.List.{append_assoc, length-map}
use Rattle.theory_checking.specs.Faults.{KindFault}
use Rattle.theory_checking.proofs.Unrefused.{set_kept, turn_map}
use Rattle.theory_semantics.proofs.Misfits.{in_turn_length}
use Rattle.theory_checking.proofs.Unifying.{IsRight, solve_right, nothing_resolved}
use Rattle.theory_checking.proofs.Asking.{made_of, same_record, below_more, agree_on, assigned, assigned_above, fixed_kinds, each_less, rows_less, fixed_rows, fixed_numbers, Fixed, Hangs, ask_nothing, ask_both, ask_same, ask_never, asked_sound, asked_complete, asked_none, asked_some}
use Rattle.theory_semantics.proofs.Misfits.{each_got}
use Rattle.theory_checking.proofs.AskingExpressions.{InUse, hangs, expression_asks}
use Rattle.theory_checking.proofs.AskingProcesses.{ask_found, named_hangs, Fits, fits_hangs, process_asks}
use Rattle.theory_checking.proofs.Owning.{row_length}

module _ (types : Types) (o : Numbering) (owners : AreOwners types o) where
  in_use : (n : ℕ) → IsBelow n o → InUse types o owners n []
  in_use n below = (below, tt)

  pub set_asked : (n : ℕ) (e : Option Expression) (m : ℕ) → IsBelow n o → m < n → Ask n (of_set types o n e m) (behind_set n e) (λ a. IsSetOf types (kinds_under a o) e (a m))
  set_asked n None m below small = ask_nothing n
  set_asked n (Some e) m below small = expression_asks types o owners [] n e (SetOver (OpenEnd m)) (below, tt) (λ a b agree. ap SetKind (agree m small))

  pub set_hangs_on : (n : ℕ) (e : Option Expression) (m : ℕ) → IsBelow n o → m < n → Hangs n (λ a. IsSetOf types (kinds_under a o) e (a m))
  set_hangs_on n e m below small = hangs types o owners n [] (λ K S k. IsSetOf types K e k) (λ a. a m) (below, tt) (λ a b agree. agree m small)

  sets_rise : (n : ℕ) (es : List (Option Expression)) → IsBelow n o → n ≤ behind_sets n es
  sets_rise n [] below = omega arith
  sets_rise n (None ∷ es) below = sets_rise n es below
  sets_rise n (Some e ∷ es) below =
      let le : n ≤ behind_expression n e = (expression_asks types o owners [] n e BoolEnd (below, tt) (λ a b agree. refl)).rising in
      let lf : behind_expression n e ≤ behind_sets (behind_expression n e) es = sets_rise (behind_expression n e) es (below_more n (behind_expression n e) o le below) in omega arith

  rows_rise : (n : ℕ) (rows : List (List (Option Expression))) → IsBelow n o → n ≤ behind_rows n rows
  rows_rise n [] below = omega arith
  rows_rise n (es ∷ rows) below =
      let le : n ≤ behind_sets n es = sets_rise n es below in
      let lf : behind_sets n es ≤ behind_rows (behind_sets n es) rows = rows_rise (behind_sets n es) rows (below_more n (behind_sets n es) o le below) in omega arith

  kinds_hang : {X : Type 0} (n : ℕ) (P : Kinds → X → Type 0) (x : Assignment → X) → IsBelow n o → Fixed n x → Hangs n (λ a. P (kinds_under a o) (x a))
  kinds_hang n P x below fixed = hangs types o owners n [] (λ K S y. P K y) x (below, tt) fixed

  pub sets_asked : (n : ℕ) (es : List (Option Expression)) (ms : List ℕ) → IsBelow n o → Each (λ m. m < n) ms →
      Ask n (of_sets types o n es ms) (behind_sets n es) (λ a. InTurn (IsSetOf types (kinds_under a o)) es (map a ms))
  sets_asked n [] [] below small = ask_nothing n
  sets_asked n [] (m ∷ ms) below small = ask_never n n _ (omega arith) (λ a h. h)
  sets_asked n (e ∷ es) [] below small = ask_never n (behind_sets n (e ∷ es)) _ (sets_rise n (e ∷ es) below) (λ a h. h)
  sets_asked n (e ∷ es) (m ∷ ms) below small =
      let p = behind_set n e in
      let first = set_asked n e m below small.0 in
      ask_both n p (behind_sets p es) (of_set types o n e m) (of_sets types o p es ms) (λ a. IsSetOf types (kinds_under a o) e (a m))
      (λ a. InTurn (IsSetOf types (kinds_under a o)) es (map a ms)) first
      (sets_asked p es ms (below_more n p o first.rising below) (each_less n p ms first.rising small.1))
      (kinds_hang n (λ K ks. InTurn (IsSetOf types K) es ks) (λ a. map a ms) below (fixed_numbers n ms small.1))

  pub rows_asked : (n : ℕ) (rows : List (List (Option Expression))) (mss : List (List ℕ)) → IsBelow n o → Each (Each (λ m. m < n)) mss →
      Ask n (of_rows types o n rows mss) (behind_rows n rows) (λ a. InTurn (InTurn (IsSetOf types (kinds_under a o))) rows (map (map a) mss))
  rows_asked n [] [] below small = ask_nothing n
  rows_asked n [] (ms ∷ mss) below small = ask_never n n _ (omega arith) (λ a h. h)
  rows_asked n (es ∷ rows) [] below small = ask_never n (behind_rows n (es ∷ rows)) _ (rows_rise n (es ∷ rows) below) (λ a h. h)
  rows_asked n (es ∷ rows) (ms ∷ mss) below small =
      let p = behind_sets n es in
      let first = sets_asked n es ms below small.0 in
      ask_both n p (behind_rows p rows) (of_sets types o n es ms) (of_rows types o p rows mss) (λ a. InTurn (IsSetOf types (kinds_under a o)) es (map a ms))
      (λ a. InTurn (InTurn (IsSetOf types (kinds_under a o))) rows (map (map a) mss)) first
      (rows_asked p rows mss (below_more n p o first.rising below) (rows_less n p mss first.rising small.1))
      (kinds_hang n (λ K kss. InTurn (InTurn (IsSetOf types K)) rows kss) (λ a. map (map a) mss) below (fixed_rows n mss small.1))

  -- all sets of a tree
  pub fit_sets_asked : (raw : RawScript) (n : ℕ) → IsBelow n o → Ask n (of_tree types raw o n) (behind_tree raw n) (λ a. FitSets types raw (kinds_under a o))
  fit_sets_asked raw n below =
      let p = behind_first raw n in
      let q = behind_second raw n in
      let r = behind_tree raw n in
      let F : Assignment → Type 0 = λ a. InTurn (IsSetOf types (kinds_under a o)) (nametype_sets raw) (map a o.nametypes) in
      let G : Assignment → Type 0 = λ a. InTurn (InTurn (IsSetOf types (kinds_under a o))) (constructor_sets raw) (map (map a) o.constructors) in
      let H : Assignment → Type 0 = λ a. InTurn (InTurn (IsSetOf types (kinds_under a o))) (channel_sets raw) (map (map a) o.channels) in
      let es = of_sets types o n (nametype_sets raw) o.nametypes in
      let fs = of_rows types o p (constructor_sets raw) o.constructors in
      let gs = of_rows types o q (channel_sets raw) o.channels in
      let first = sets_asked n (nametype_sets raw) o.nametypes below below.nametypes in
      let more = below_more n p o first.rising below in
      let second = rows_asked p (constructor_sets raw) o.constructors more more.constructors in
      let yet_more = below_more p q o second.rising more in
      let third = rows_asked q (channel_sets raw) o.channels yet_more yet_more.channels in
      ask_same n r (es ++ (fs ++ gs)) (λ a. F a × (G a × H a)) (λ a. FitSets types raw (kinds_under a o))
      (ask_both n p r es (fs ++ gs) F (λ a. G a × H a) first
      (ask_both p q r fs gs G H second third (kinds_hang p (λ K kss. InTurn (InTurn (IsSetOf types K)) (channel_sets raw) kss) (λ a. map (map a) o.channels) more (fixed_rows p o.channels more.channels)))
      (kinds_hang {X = List (List Kind) × List (List Kind)} n (λ K kss. InTurn (InTurn (IsSetOf types K)) (constructor_sets raw) kss.0 × InTurn (InTurn (IsSetOf types K)) (channel_sets raw) kss.1)
      (λ a. (map (map a) o.constructors, map (map a) o.channels)) below
      (λ a b agree. ap₂ (λ x y. (x, y)) (fixed_rows n o.constructors below.constructors a b agree) (fixed_rows n o.channels below.channels a b agree))))
      (λ a x. record { nametypes = x.0; constructors = x.1.0; channels = x.1.1 }) (λ a x. (x.nametypes, (x.constructors, x.channels)))

-- ---- equations and assertions

scope_numbered : (a : Assignment) (xs ms : List ℕ) → scope_of xs (map a ms) ≡ scope_under a (numbered xs ms)
scope_numbered a [] ms = refl
scope_numbered a (x ∷ xs) [] = refl
scope_numbered a (x ∷ xs) (m ∷ ms) = ap (λ z. (x, a m) ∷ z) (scope_numbered a xs ms)

numbered_below : (n : ℕ) (xs ms : List ℕ) → Each (λ m. m < n) ms → NamesBelow n (numbered xs ms)
numbered_below n [] ms small = tt
numbered_below n (x ∷ xs) [] small = tt
numbered_below n (x ∷ xs) (m ∷ ms) small = (small.0, numbered_below n xs ms small.1)

pub rows_counted : (a : Assignment) (mss : List (List ℕ)) → map length (map (map a) mss) ≡ map length mss
rows_counted a [] = refl
rows_counted a (ms ∷ mss) = ap₂ ◌∷◌ (length-map ms a) (rows_counted a mss)

module _ (script : Script) (o : Numbering) (owners : AreOwners script.types o) where
  process_rises : (n : ℕ) (p : Process) → IsBelow n o → n ≤ behind_process n p
  process_rises n p below = (process_asks script o owners n [] p (below, tt)).rising

  equation_asked : (n : ℕ) (q : Equation) (ms : List ℕ) → IsBelow n o → Each (λ m. m < n) ms →
      Ask n (of_equation script o n q ms) (behind_process n q.body) (λ a. IsWellKindedEquation script (kinds_under a o) q (map a ms))
  equation_asked n q ms below small = by_test (nat_eq (length q.parameters) (length ms)) refl
    where
      by_test : (t : Bool) → nat_eq (length q.parameters) (length ms) ≡ t →
          Ask n (cond t (of_process script o n (numbered q.parameters ms) q.body) never) (behind_process n q.body) (λ a. IsWellKindedEquation script (kinds_under a o) q (map a ms))
      by_test true is = ask_same n (behind_process n q.body) (of_process script o n (numbered q.parameters ms) q.body)
          (Fits script o owners (numbered q.parameters ms) q.body) (λ a. IsWellKindedEquation script (kinds_under a o) q (map a ms))
          (process_asks script o owners n (numbered q.parameters ms) q.body (below, numbered_below n q.parameters ms small))
          (λ a h. record {
            parameters = eqb-true (length q.parameters) (length ms) is ∙ sym (length-map ms a);
            body = subst (λ S. IsWellKinded script (kinds_under a o) S q.body) (sym (scope_numbered a q.parameters ms)) h;
          })
          (λ a h. subst (λ S. IsWellKinded script (kinds_under a o) S q.body) (scope_numbered a q.parameters ms) h.body)
      by_test false is = ask_never n (behind_process n q.body) (λ a. IsWellKindedEquation script (kinds_under a o) q (map a ms)) (process_rises n q.body below)
          (λ a h. eqb-false (length q.parameters) (length ms) is (h.parameters ∙ length-map ms a))

  specification_asked : (n : ℕ) (spec : Option Process) → IsBelow n o → Ask n (of_specification script o n spec) (behind_specification n spec) (λ a. IfSome spec (IsClosedTerm script (kinds_under a o)))
  specification_asked n (Some p) below = process_asks script o owners n [] p (below, tt)
  specification_asked n None below = ask_nothing n

  assertion_asked : (n : ℕ) (x : Assertion) → IsBelow n o → Ask n (of_assertion script o n x)
      (behind_assertion n x) (λ a. IsWellKindedAssertion script (kinds_under a o) x)
  assertion_asked n x below =
      let spec = specification_of x.property in
      let p = behind_specification n spec in
      let q = behind_process p x.implementation in
      let first = specification_asked n spec below in
      ask_same n q (of_assertion script o n x) (λ a. IfSome spec (IsClosedTerm script (kinds_under a o)) × Fits script o owners [] x.implementation a) (λ a. IsWellKindedAssertion script (kinds_under a o) x)
      (ask_both n p q (of_specification script o n spec) (of_process script o p [] x.implementation) (λ a. IfSome spec (IsClosedTerm script (kinds_under a o))) (Fits script o owners [] x.implementation) first
      (process_asks script o owners p [] x.implementation (below_more n p o first.rising below, tt)) (fits_hangs script o owners n [] x.implementation (below, tt)))
      (λ a h. record { specification = h.0; implementation = h.1 }) (λ a h. (h.specification, h.implementation))

  equation_item : (n m : ℕ) (found : Option Equation) → slice_get script.equations m ≡ found → IsBelow n o →
      Ask n (when found (λ q. when (slice_get o.parameters m) (of_equation script o n q))) (elim found [ Some q ↦ behind_process n q.body | None ↦ n ])
      (λ a. (q : Equation) × (ks : List Kind) × (slice_get script.equations m ≡ Some q) × (slice_get (map (map a) o.parameters) m ≡ Some ks) × IsWellKindedEquation script (kinds_under a o) q ks)
  equation_item n m None is below = ask_never n n _ (omega arith) (λ a h. let e : None ≡ Some h.0 = sym is ∙ h.2 in cc e)
  equation_item n m (Some q) is below =
      ask_same n (behind_process n q.body) (when (slice_get o.parameters m) (of_equation script o n q))
      (λ a. (ks : List Kind) × (slice_get (map (map a) o.parameters) m ≡ Some ks) × IsWellKindedEquation script (kinds_under a o) q ks)
      (λ a. (r : Equation) × (ks : List Kind) × (slice_get script.equations m ≡ Some r) × (slice_get (map (map a) o.parameters) m ≡ Some ks) × IsWellKindedEquation script (kinds_under a o) r ks)
      (ask_found n (behind_process n q.body) o.parameters m (of_equation script o n q) (λ a ks. IsWellKindedEquation script (kinds_under a o) q ks) (process_rises n q.body below)
      (λ ms got. equation_asked n q ms below (each_got (Each (λ i. i < n)) o.parameters m ms below.parameters got))) (λ a h. (q, h.0, is, h.1, h.2))
      (λ a h.
      let e : Some h.0 ≡ Some q = sym h.2 ∙ is in
      let same : h.0 ≡ q = cc e in (h.1, h.3, subst (λ r. IsWellKindedEquation script (kinds_under a o) r h.1) same h.4))

  assertion_item : (n m : ℕ) (found : Option Assertion) → slice_get script.assertions m ≡ found → IsBelow n o →
      Ask n (when found (of_assertion script o n)) (elim found [ Some x ↦ behind_assertion n x | None ↦ n ])
      (λ a. (x : Assertion) × (slice_get script.assertions m ≡ Some x) × IsWellKindedAssertion script (kinds_under a o) x)
  assertion_item n m None is below = ask_never n n _ (omega arith) (λ a h. let e : None ≡ Some h.0 = sym is ∙ h.1 in cc e)
  assertion_item n m (Some x) is below =
      ask_same n (behind_assertion n x) (of_assertion script o n x) (λ a. IsWellKindedAssertion script (kinds_under a o) x)
      (λ a. (y : Assertion) × (slice_get script.assertions m ≡ Some y) × IsWellKindedAssertion script (kinds_under a o) y) (assertion_asked n x below) (λ a h. (x, is, h))
      (λ a h.
      let e : Some h.0 ≡ Some x = sym h.1 ∙ is in
      let same : h.0 ≡ x = cc e in subst (IsWellKindedAssertion script (kinds_under a o)) same h.2)

  pub item_asked : (n : ℕ) (x : Item) → IsBelow n o → Ask n (of_item script o n x) (behind_item script n x) (λ a. FitsItem script (kinds_under a o) x)
  item_asked n (EquationItem p m) below = equation_item n m (slice_get script.equations m) refl below
  item_asked n (AssertionItem p m) below = assertion_item n m (slice_get script.assertions m) refl below

  pub items_asked : (n : ℕ) (xs : List Item) → IsBelow n o → Ask n (of_items script o n xs) (behind_items script n xs) (λ a. Each (FitsItem script (kinds_under a o)) xs)
  items_asked n [] below = ask_nothing n
  items_asked n (x ∷ xs) below =
      let p = behind_item script n x in
      let first = item_asked n x below in
      ask_both n p (behind_items script p xs) (of_item script o n x) (of_items script o p xs) (λ a. FitsItem script (kinds_under a o) x) (λ a. Each (FitsItem script (kinds_under a o)) xs) first
      (items_asked p xs (below_more n p o first.rising below)) (named_hangs script.types o owners [] n (λ K S. Each (FitsItem script K) xs) (below, tt))

  module _ (raw : RawScript) (n m : ℕ) (es : List state.KindEquation) (xs : List Item) (sets : Ask n es m (λ a. FitSets (types_of raw) raw (kinds_under a o))) where
    pub fit_asked : IsBelow n o → map length o.parameters ≡ flat_map parameters_declared raw →
        Ask n (es ++ of_items script o m xs) (behind_items script m xs) (λ a. FitKinds raw script (kinds_under a o) xs)
    fit_asked below counted =
        ask_same n (behind_items script m xs) (es ++ of_items script o m xs)
        (λ a. FitSets (types_of raw) raw (kinds_under a o) × Each (FitsItem script (kinds_under a o)) xs) (λ a. FitKinds raw script (kinds_under a o) xs)
        (ask_both n m (behind_items script m xs) es (of_items script o m xs) (λ a. FitSets (types_of raw) raw (kinds_under a o))
        (λ a. Each (FitsItem script (kinds_under a o)) xs) sets (items_asked m xs (below_more n m o sets.rising below))
        (named_hangs script.types o owners [] n (λ K S. Each (FitsItem script K) xs) (below, tt)))
        (λ a h. record { sets = h.0; parameters = rows_counted a o.parameters ∙ counted; each = h.1 }) (λ a h. (h.sets, h.each))

    turn_lengths : {A B : Type 0} (P : A → B → Type 0) (rows : List (List A)) (kss : List (List B)) → InTurn (InTurn P) rows kss → map length kss ≡ map length rows
    turn_lengths P [] [] h = refl
    turn_lengths P [] (ks ∷ kss) h = absurd h
    turn_lengths P (r ∷ rows) [] h = absurd h
    turn_lengths P (r ∷ rows) (ks ∷ kss) h = ap₂ ◌∷◌ (sym (in_turn_length P r ks h.0)) (turn_lengths P rows kss h.1)

    shape_of : (kinds : Kinds) → FitKinds raw script kinds xs → HaveShape raw kinds
    shape_of kinds h = record {
      nametypes = sym (in_turn_length (IsSetOf (types_of raw) kinds) (nametype_sets raw) kinds.nametypes h.sets.nametypes);
      constructors = turn_lengths (IsSetOf (types_of raw) kinds) (constructor_sets raw) kinds.constructors h.sets.constructors;
      channels = turn_lengths (IsSetOf (types_of raw) kinds) (channel_sets raw) kinds.channels h.sets.channels;
      parameters = h.parameters;
    }

    pub no_kinds_fit : AreNumbersFor raw n o → state.HasNoSolution state.nothing_known (es ++ of_items script o m xs) → (kinds : Kinds) → ¬ (FitKinds raw script kinds xs)
    no_kinds_fit numbers none kinds h =
        let c = numbers.cover kinds (shape_of kinds h) in
        asked_none n (behind_items script m xs) (es ++ of_items script o m xs) (λ a. FitKinds raw script (kinds_under a o) xs)
        (fit_asked numbers.below numbers.parameters) none c.0 (subst (λ K. FitKinds raw script K xs) (sym c.1) h)

    pub some_kinds_fit : AreNumbersFor raw n o → (t : state.State) → state.IsSolved state.nothing_known (es ++ of_items script o m xs) t → (kinds : Kinds) × FitKinds raw script kinds xs
    some_kinds_fit numbers t solved =
        let x = asked_some n (behind_items script m xs) (es ++ of_items script o m xs) (λ a. FitKinds raw script (kinds_under a o) xs)
        (fit_asked numbers.below numbers.parameters) t solved in (kinds_under x.0 o, x.2)

    pub kinds_of_state_fit : AreNumbersFor raw n o → (t : state.State) → state.IsSolved state.nothing_known (es ++ of_items script o m xs) t →
        (a : Assignment) → state.Satisfies a t → FitKinds raw script (kinds_under a o) xs
    kinds_of_state_fit numbers t solved =
        asked_sound n (behind_items script m xs) (es ++ of_items script o m xs) (λ a. FitKinds raw script (kinds_under a o) xs)
        (fit_asked numbers.below numbers.parameters) t solved

    pub fitting_kinds_satisfy : AreNumbersFor raw n o → (t : state.State) → state.IsSolved state.nothing_known (es ++ of_items script o m xs) t → (kinds : Kinds) → FitKinds raw script kinds xs →
        (a : Assignment) × state.Satisfies a t × (kinds_under a o ≡ kinds)
    fitting_kinds_satisfy numbers t solved kinds h =
        let c = numbers.cover kinds (shape_of kinds h) in
        let x = asked_complete n (behind_items script m xs) (es ++ of_items script o m xs) (λ a. FitKinds raw script (kinds_under a o) xs)
        (fit_asked numbers.below numbers.parameters) t solved c.0 (subst (λ K. FitKinds raw script K xs) (sym c.1) h) in
        (x.0, x.2, fixed_kinds n o numbers.below c.0 x.0 x.1 ∙ c.1)

-- ---- sets alone

pub repeated : ℕ → List Kind
repeated zero = []
repeated (suc k) = IntKind ∷ repeated k

pub repeated_length : (k : ℕ) → length (repeated k) ≡ k
unfolding repeated
repeated_length zero = refl
repeated_length (suc k) = ap suc (repeated_length k)

pub repeated_rows : (ks : List ℕ) → map length (map repeated ks) ≡ ks
repeated_rows [] = refl
repeated_rows (k ∷ ks) = ap₂ ◌∷◌ (repeated_length k) (repeated_rows ks)

rows_length : {A B : Type 0} (P : A → B → Type 0) (rows : List (List A)) (kss : List (List B)) → InTurn (InTurn P) rows kss → map length kss ≡ map length rows
rows_length P [] [] h = refl
rows_length P [] (ks ∷ kss) h = absurd h
rows_length P (r ∷ rows) [] h = absurd h
rows_length P (r ∷ rows) (ks ∷ kss) h = ap₂ ◌∷◌ (sym (in_turn_length P r ks h.0)) (rows_length P rows kss h.1)

-- kinds that fit sets, with some kinds for the parameters
with_parameters : (types : Types) (raw : RawScript) → SomeFit types raw → (kinds : Kinds) × HaveShape raw kinds × FitSets types raw kinds
with_parameters types raw fit = (
  full,
  record {
    nametypes = sym (in_turn_length (IsSetOf types fit.0) (nametype_sets raw) fit.0.nametypes fit.1.nametypes);
    constructors = rows_length (IsSetOf types fit.0) (constructor_sets raw) fit.0.constructors fit.1.constructors;
    channels = rows_length (IsSetOf types fit.0) (channel_sets raw) fit.0.channels fit.1.channels;
    parameters = repeated_rows (flat_map parameters_declared raw);
  },
  record {
    nametypes = turn_map (IsSetOf types fit.0) (IsSetOf types full) kept (nametype_sets raw) fit.0.nametypes fit.1.nametypes;
    constructors = rows_kept (constructor_sets raw) fit.0.constructors fit.1.constructors;
    channels = rows_kept (channel_sets raw) fit.0.channels fit.1.channels;
  },
)
  where
    full : Kinds
    full = made_of fit.0.nametypes fit.0.constructors fit.0.channels (map repeated (flat_map parameters_declared raw))

    kept : (e : Option Expression) (k : Kind) → IsSetOf types fit.0 e k → IsSetOf types full e k
    kept = set_kept types fit.0 full (λ n k e. e) (λ c ks e. e)

    rows_kept : (rows : List (List (Option Expression))) (kss : List (List Kind)) → InTurn (InTurn (IsSetOf types fit.0)) rows kss → InTurn (InTurn (IsSetOf types full)) rows kss
    rows_kept rows kss h = turn_map (InTurn (IsSetOf types fit.0)) (InTurn (IsSetOf types full)) (λ es ks i. turn_map (IsSetOf types fit.0) (IsSetOf types full) kept es ks i) rows kss h

module _ (types : Types) (raw : RawScript) (o : Numbering) (n m : ℕ) (es : List state.KindEquation) (numbers : AreNumbersFor raw n o)
    (sets : Ask n es m (λ a. FitSets types raw (kinds_under a o))) where
  pub some_sets_fit : (t : state.State) → state.IsSolved state.nothing_known es t → SomeFit types raw
  some_sets_fit t solved = let x = asked_some n m es (λ a. FitSets types raw (kinds_under a o)) sets t solved in (kinds_under x.0 o, x.2)

  pub no_sets_fit : state.HasNoSolution state.nothing_known es → ¬ (SomeFit types raw)
  no_sets_fit none fit =
      let f = with_parameters types raw fit in
      let c = numbers.cover f.0 f.1 in
      asked_none n m es (λ a. FitSets types raw (kinds_under a o)) sets none c.0 (subst (FitSets types raw) (sym c.1) f.2)

-- ---- one item more

pub items_and_one : (script : Script) (o : Numbering) (n : ℕ) (before : List Item) (x : Item) →
    of_items script o n (before ++ x ∷ []) ≡ of_items script o n before ++ of_item script o (behind_items script n before) x
items_and_one script o n [] x = append-nil (of_item script o n x)
items_and_one script o n (y ∷ before) x =
    ap (λ z. of_item script o n y ++ z) (items_and_one script o (behind_item script n y) before x) ∙
    sym (append_assoc (of_item script o n y) (of_items script o (behind_item script n y) before) (of_item script o (behind_items script (behind_item script n y) before) x))

-- ---- numbers in a row are numbers for a tree

rows_from_counted : (n : ℕ) (ks : List ℕ) → map length (rows_from n ks) ≡ ks
rows_from_counted n [] = refl
rows_from_counted n (k ∷ ks) = ap₂ ◌∷◌ (row_length n k) (rows_from_counted (n + k) ks)

numbers_small : (n k m : ℕ) → n + k ≤ m → Each (λ x. x < m) (numbers_from n k)
numbers_small n zero m le = tt
numbers_small n (suc k) m le = (omega arith, numbers_small (suc n) k m (omega arith))

behind_rises : (n : ℕ) (ks : List ℕ) → n ≤ behind_all n ks
behind_rises n [] = omega arith
behind_rises n (k ∷ ks) = let le : n + k ≤ behind_all (n + k) ks = behind_rises (n + k) ks in omega arith

rows_small : (n m : ℕ) (ks : List ℕ) → behind_all n ks ≤ m → Each (Each (λ x. x < m)) (rows_from n ks)
rows_small n m [] le = tt
rows_small n m (k ∷ ks) le = let lf : n + k ≤ behind_all (n + k) ks = behind_rises (n + k) ks in (numbers_small n k m (omega arith), rows_small (n + k) m ks le)

cover_numbers : (ks : List Kind) (n : ℕ) (a : Assignment) → (b : Assignment) × AgreeBelow n a b × (map b (numbers_from n (length ks)) ≡ ks)
cover_numbers [] n a = (a, λ k small. refl, refl)
cover_numbers (k ∷ ks) n a =
    let y = cover_numbers ks (suc n) (assign n k a) in
    (y.0, agree_on n (suc n) a (assign n k a) y.0 (omega arith) (assigned_above n k a) y.1, ap₂ ◌∷◌ (y.1 n (omega arith) ∙ assigned n k a) y.2)

cover_rows : (kss : List (List Kind)) (n : ℕ) (a : Assignment) → (b : Assignment) × AgreeBelow n a b × (map (map b) (rows_from n (map length kss)) ≡ kss)
cover_rows [] n a = (a, λ k small. refl, refl)
cover_rows (ks ∷ kss) n a =
    let y = cover_numbers ks n a in
    let z = cover_rows kss (n + length ks) y.0 in (
      z.0,
      agree_on n (n + length ks) a y.0 z.0 (omega arith) y.1 z.1,
      ap₂ ◌∷◌ (fixed_numbers (n + length ks) (numbers_from n (length ks)) (numbers_small n (length ks) (n + length ks) (omega arith)) y.0 z.0 z.1 ∙ y.2) z.2,
    )

-- the numbers of the constructors' fields, of the channels' and of the parameters, from k on
abbrev Covered : Kinds → ℕ → List ℕ → List ℕ → List ℕ → Assignment → Type 0
Covered kinds k cs ls ps a =
    (map a (numbers_from 0 k) ≡ kinds.nametypes) × (map (map a) (rows_from k cs) ≡ kinds.constructors)
    × (map (map a) (rows_from (behind_all k cs) ls) ≡ kinds.channels) × (map (map a) (rows_from (behind_all (behind_all k cs) ls) ps) ≡ kinds.parameters)

cover_all : (kinds : Kinds) → (a : Assignment) × Covered kinds (length kinds.nametypes) (map length kinds.constructors) (map length kinds.channels) (map length kinds.parameters) a
cover_all kinds =
    let k = length kinds.nametypes in
    let cs = map length kinds.constructors in
    let ls = map length kinds.channels in
    let ps = map length kinds.parameters in
    let j = behind_all k cs in
    let l = behind_all j ls in
    let le : k ≤ j = behind_rises k cs in
    let lf : j ≤ l = behind_rises j ls in
    let x = cover_numbers kinds.nametypes 0 (λ n. IntKind) in
    let w = cover_rows kinds.constructors k x.0 in
    let y = cover_rows kinds.channels j w.0 in
    let z = cover_rows kinds.parameters l y.0 in
    let last : AgreeBelow j w.0 z.0 = agree_on j l w.0 y.0 z.0 lf y.1 z.1 in (
      z.0,
      (
        fixed_numbers k (numbers_from 0 k) (numbers_small 0 k k (omega arith)) x.0 z.0 (agree_on k j x.0 w.0 z.0 le w.1 last) ∙ x.2,
        fixed_rows j (rows_from k cs) (rows_small k j cs (omega arith)) w.0 z.0 last ∙ w.2,
        fixed_rows l (rows_from j ls) (rows_small j l ls (omega arith)) y.0 z.0 z.1 ∙ y.2,
        z.2,
      ),
    )

pub row_numbers_for : (owners : List ℕ) (raw : RawScript) → AreNumbersFor raw (next_number raw) (numbers_of owners raw)
row_numbers_for owners raw = record {
  below =
      let lc : behind_nametypes raw ≤ behind_constructors raw = behind_rises (behind_nametypes raw) (map length (constructor_sets raw)) in
      let le : behind_constructors raw ≤ behind_channels raw = behind_rises (behind_constructors raw) (map length (channel_sets raw)) in
      let lf : behind_channels raw ≤ next_number raw = behind_rises (behind_channels raw) (flat_map parameters_declared raw) in
      record {
        nametypes = numbers_small 0 (behind_nametypes raw) (next_number raw) (omega (arith, lc, le, lf));
        constructors = rows_small (behind_nametypes raw) (next_number raw) (map length (constructor_sets raw)) (omega (arith, le, lf));
        channels = rows_small (behind_constructors raw) (next_number raw) (map length (channel_sets raw)) (omega (arith, lf));
        parameters = rows_small (behind_channels raw) (next_number raw) (flat_map parameters_declared raw) (omega arith);
      };
  nametypes = row_length 0 (length (nametype_sets raw));
  constructors = rows_from_counted (behind_nametypes raw) (map length (constructor_sets raw));
  channels = rows_from_counted (behind_constructors raw) (map length (channel_sets raw));
  parameters = rows_from_counted (behind_channels raw) (flat_map parameters_declared raw);
  cover = λ kinds shape.
      let x = cover_all kinds in
      let cs = map length (constructor_sets raw) in
      let ls = map length (channel_sets raw) in
      let ps = flat_map parameters_declared raw in
      let y : Covered kinds (length (nametype_sets raw)) cs ls ps x.0 =
      subst (λ k. Covered kinds k cs ls ps x.0) shape.nametypes
      (subst (λ z. Covered kinds (length kinds.nametypes) z ls ps x.0) shape.constructors
      (subst (λ z. Covered kinds (length kinds.nametypes) (map length kinds.constructors) z ps x.0) shape.channels
      (subst (λ z. Covered kinds (length kinds.nametypes) (map length kinds.constructors) (map length kinds.channels) z x.0) shape.parameters x.1))) in (
        x.0,
        same_record (map x.0 (numbers_from 0 (length (nametype_sets raw)))) kinds.nametypes (map (map x.0) (rows_from (behind_nametypes raw) cs)) kinds.constructors
            (map (map x.0) (rows_from (behind_constructors raw) ls)) kinds.channels (map (map x.0) (rows_from (behind_channels raw) ps)) kinds.parameters y.0 y.1 y.2 y.3,
      );
}

pub not_misfit : (raw : RawScript) (script : Script) (before : List Item) (x : Item) (f : KindFault) → IsMisfit raw script before x f →
    (kinds : Kinds) × FitKinds raw script kinds (before ++ x ∷ []) → ⊥
not_misfit raw script before x f (misfit none) fit = none fit.0 fit.1

-- ---- it is decided whether kinds fit

pub sets_decided : (types : Types) (raw : RawScript) (owners : List ℕ) → AreOwners types (numbers_of owners raw) → SomeFit types raw ⊎ (¬ (SomeFit types raw))
sets_decided types raw owners right = by_answer (state.solve state.nothing_known es) (solve_right state.nothing_known es nothing_resolved)
  where
    o : Numbering
    o = numbers_of owners raw

    es : List state.KindEquation
    es = of_tree types raw o (next_number raw)

    asked : Ask (next_number raw) es (behind_tree raw (next_number raw)) (λ a. FitSets types raw (kinds_under a o))
    asked = fit_sets_asked types o right raw (next_number raw) (row_numbers_for owners raw).below

    by_answer : (x : Option state.State) → IsRight state.nothing_known es x → SomeFit types raw ⊎ (¬ (SomeFit types raw))
    by_answer (Some t) h =
        inl (some_sets_fit types raw o (next_number raw) (behind_tree raw (next_number raw)) es
        (row_numbers_for owners raw) asked t h)
    by_answer None h = inr (no_sets_fit types raw o (next_number raw) (behind_tree raw (next_number raw)) es (row_numbers_for owners raw) asked h)

pub items_decided : (raw : RawScript) (script : Script) (owners : List ℕ) (xs : List Item) → AreOwners (types_of raw) (numbers_of owners raw) → AreOwners script.types (numbers_of owners raw) →
    ((kinds : Kinds) × FitKinds raw script kinds xs) ⊎ ((kinds : Kinds) → ¬ (FitKinds raw script kinds xs))
items_decided raw script owners xs right good =
    by_answer (state.solve state.nothing_known (es ++ of_items script o m xs)) (solve_right state.nothing_known (es ++ of_items script o m xs) nothing_resolved)
  where
    o : Numbering
    o = numbers_of owners raw

    es : List state.KindEquation
    es = of_tree (types_of raw) raw o (next_number raw)

    m : ℕ
    m = behind_tree raw (next_number raw)

    asked : Ask (next_number raw) es m (λ a. FitSets (types_of raw) raw (kinds_under a o))
    asked = fit_sets_asked (types_of raw) o right raw (next_number raw) (row_numbers_for owners raw).below

    by_answer : (x : Option state.State) → IsRight state.nothing_known (es ++ of_items script o m xs) x →
        ((kinds : Kinds) × FitKinds raw script kinds xs) ⊎ ((kinds : Kinds) → ¬ (FitKinds raw script kinds xs))
    by_answer (Some t) h = inl (some_kinds_fit script o good raw (next_number raw) m es xs asked (row_numbers_for owners raw) t h)
    by_answer None h = inr (no_kinds_fit script o good raw (next_number raw) m es xs asked (row_numbers_for owners raw) h)
