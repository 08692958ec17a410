-- The steps of the right side with which a step of the left one meets stand together in a list that rises.
use denote.RattleType
use mir.Syntax
use Rattle.std.proofs.Common.{◌≡◌, ℕ, ◌+◌, ◌-◌, ◌≤◌, ◌<◌, Bool, true, false, not, ◌&&◌, cond, List, [], ◌∷◌, ◌++◌, length, map, take, drop, get_or, Option, refl, sym, ◌∙◌, ap, ap₂, subst, arith}
use Rattle.std.specs.declared.alloc.Allocator as allocator
use Rattle.std.specs.declared.clone.Clone as clone
use Rattle.std.specs.declared.cmp.Ordering.{Ordering}
use Rattle.std.specs.declared.cmp.Ordering.TheVariants.{Less, Equal, Greater}
use Rattle.std.specs.List.{All, AllWithin}
use Rattle.std.specs.List.Sorted.{IsNonDecreasingBy, IsPartitionedBy, IsPartitionPoint}
use Rattle.std.specs.Ordering.{is_eq, is_lt, is_some_and, ordering_index, ordering_reverse, partial_lt}
use Rattle.std.proofs.lemmas.List.{append-nil, append_assoc, get_or_default, get_or-drop, get_or-take, length-drop, length-take-le, map-append, take-append-drop, take_all, take_more}
use Rattle.std.proofs.lemmas.List.Elements.{All-head, All-tail, All-weaker}
use Rattle.std.proofs.lemmas.List.Sorted.{IsNonDecreasingBy-drop, searchable_from_sorted}
use Rattle.std.proofs.lemmas.Bool.{not-true, not-false}
use Rattle.theory_syntax.specs.Value.{Action, Event, Tau, Tick, Ev, action_cmp, action_eq, event_eq}
use Rattle.theory_syntax.specs.Process.{Process}
use Rattle.theory_syntax.proofs.Equalities.{event_refl, is_lt-Less}
use Rattle.theory_syntax.proofs.Orders.{action_total}
use Rattle.csp_value.specs.Action.{action_of}
use Rattle.csp_value.specs.contracts.action.ActionOrd.TheImpl.Laws as laws
use Rattle.csp_value.specs.contracts.action.ActionPartialOrd.TheImpl as partial
use Rattle.csp_value.specs.contracts.handle.AllocHandle.TheBound.{Lawful}
use Rattle.csp_value.specs.declared.action.Action as Code
use Rattle.csp_value.specs.declared.handle.AllocHandle as handle
use Rattle.csp_value.proofs.ActionEquality.{action_eq as derived_eq, action_tells}
use Rattle.csp_value.proofs.ActionOrder.{action_ordered}
use Rattle.csp_steps.specs.declared.rule_step.RuleStep.{RuleStep}
use Rattle.csp_steps.specs.Answering.{Answered, answered_of, target_of}
use Rattle.csp_steps.specs.Composing.{each_answer, meet_answer, under_both}
use Rattle.csp_steps.specs.Together.{AreRising, is_before, is_done_together}
use Rattle.csp_steps.proofs.Telling.{eq_of}
use Rattle.csp_steps.proofs.Collecting.{one_pushed}
use Rattle.csp_steps.proofs.Composing.{each_more}

-- ---- one step of each side

and_false : (a b : Bool) → b ≡ false → a && b ≡ false
and_false true b is = is
and_false false b is = refl

-- an action that is not shared meets nothing
unshared_one : (shared : Event → Bool) (under : Process → Process → Process) (x : Action) (t : Option Process) (y : Action) (u : Option Process) → is_done_together shared x ≡ false → meet_answer shared under x t y u ≡ []
unshared_one shared under (Ev e) t (Ev f) u is = ap (λ b. cond b ((Ev e, under_both under t u) ∷ []) []) (and_false (event_eq e f) (shared e) is)
unshared_one shared under (Ev e) t Tau u is = refl
unshared_one shared under (Ev e) t Tick u is = refl
unshared_one shared under Tau t y u is = refl
unshared_one shared under Tick t y u is = refl

-- an action meets no other one
apart : (shared : Event → Bool) (under : Process → Process → Process) (x : Action) (t : Option Process) (y : Action) (u : Option Process) → action_eq x y ≡ false → meet_answer shared under x t y u ≡ []
apart shared under (Ev e) t (Ev f) u is = ap (λ b. cond (b && shared e) ((Ev e, under_both under t u) ∷ []) []) is
apart shared under (Ev e) t Tau u is = refl
apart shared under (Ev e) t Tick u is = refl
apart shared under Tau t y u is = refl
apart shared under Tick t y u is = refl

-- a shared one meets itself
met : (shared : Event → Bool) (under : Process → Process → Process) (x : Action) (t : Option Process) (y : Action) (u : Option Process) → is_done_together shared x ≡ true → y ≡ x → (x, under_both under t u) ∷ [] ≡ meet_answer shared under x t y u
met shared under (Ev e) t y u is same =
    let P : Action → Type 0 = λ z. (Ev e, under_both under t u) ∷ [] ≡ meet_answer shared under (Ev e) t z u in
    subst P (sym same) (sym (ap₂ (λ a b. cond (a && b) ((Ev e, under_both under t u) ∷ []) []) (event_refl e) is))
met shared under Tau t y u is same = absurd (cc is)
met shared under Tick t y u is same = absurd (cc is)

-- ---- what is made of each step of a list

each_append : (f : Action → Option Process → List Answered) (bs cs : List Answered) → each_answer f (bs ++ cs) ≡ each_answer f bs ++ each_answer f cs
each_append f [] cs = refl
each_append f (b ∷ bs) cs = ap (λ ds. f b.0 b.1 ++ ds) (each_append f bs cs) ∙ sym (append_assoc (f b.0 b.1) (each_answer f bs) (each_answer f cs))

module _ {A : Type 0} (f : Action → Option Process → List Answered) where
  abbrev of_steps : List (RuleStep A) → List Answered
  of_steps ss = each_answer f (map answered_of ss)

  abbrev NoneOf : RuleStep A → Type 0
  NoneOf s = f (action_of s.action) (target_of s.target) ≡ []

  none_of_all : (ss : List (RuleStep A)) → All NoneOf ss → of_steps ss ≡ []
  none_of_all [] all = refl
  none_of_all (s ∷ ss) all = ap₂ ◌++◌ (All-head NoneOf s ss all) (none_of_all ss (All-tail NoneOf s ss all))

  of_both : (ss us : List (RuleStep A)) → of_steps (ss ++ us) ≡ of_steps ss ++ of_steps us
  of_both ss us = ap (each_answer f) (map-append answered_of ss us) ∙ each_append f (map answered_of ss) (map answered_of us)

  -- those up to i make nothing
  behind_none : (ss : List (RuleStep A)) (i : ℕ) → All NoneOf (take i ss) → of_steps ss ≡ of_steps (drop i ss)
  behind_none ss i none = ap of_steps (sym (take-append-drop i ss)) ∙ of_both (take i ss) (drop i ss) ∙ ap (λ bs. bs ++ of_steps (drop i ss)) (none_of_all (take i ss) none)

  -- those from i on make nothing
  before_none : (ss : List (RuleStep A)) (i : ℕ) → All NoneOf (drop i ss) → of_steps ss ≡ of_steps (take i ss)
  before_none ss i none = ap of_steps (sym (take-append-drop i ss)) ∙ of_both (take i ss) (drop i ss) ∙ ap (λ bs. of_steps (take i ss) ++ bs) (none_of_all (drop i ss) none) ∙ append-nil (of_steps (take i ss))

-- ---- where a list stands to a bound

all_taken : {X : Type 0} (P : X → Type 0) (xs : List X) (i : ℕ) → i ≤ length xs → AllWithin P xs 0 i → All P (take i xs)
all_taken P xs i within all k d below =
    let under : k < i = let e = length-take-le i xs within in omega (arith, e, below) in
    subst P (sym (get_or-take i xs k d under)) (all k d (omega arith) under)

all_dropped : {X : Type 0} (P : X → Type 0) (xs : List X) (i : ℕ) → AllWithin P xs i (length xs) → All P (drop i xs)
all_dropped P xs i all k d below =
    let over : i + k < length xs = let e = length-drop i xs in omega (arith, e, below) in
    subst P (sym (get_or-drop i xs k d)) (all (i + k) d (omega arith) over)

-- ---- orders

is_less : (o : Ordering) → ordering_index o ≤ 0 → is_lt o ≡ true
is_less Less le = refl
is_less Equal le = absurd (omega (arith, le))
is_less Greater le = absurd (omega (arith, le))

is_greater : (o : Ordering) → is_lt o ≡ false → is_eq o ≡ false → ordering_index o ≡ 2
is_greater Less lt eq = absurd (cc lt)
is_greater Equal lt eq = absurd (cc eq)
is_greater Greater lt eq = refl

greater_apart : (o : Ordering) → 2 ≤ ordering_index o → is_eq (ordering_reverse o) ≡ false
greater_apart Less le = refl
greater_apart Equal le = absurd (omega (arith, le))
greater_apart Greater le = refl

-- ---- one step of the left side, and the right side

module _ {A : Type 0} (x : Action) where
  abbrev rank : RuleStep A → ℕ
  rank s = ordering_index (action_cmp (action_of s.action) x)

  rises : (right : List (RuleStep A)) → AreRising right → IsNonDecreasingBy rank right
  rises right rising = searchable_from_sorted action_total (λ s. action_of s.action) right x rising

  -- what comes before the action comes first
  pub before_first : (right : List (RuleStep A)) → AreRising right → IsPartitionedBy (is_before x) right
  before_first right rising i j d le within before =
      is_less (action_cmp (action_of (get_or right i d).action) x)
      (let up = rises right rising i j d le within in let zero = ap ordering_index (is_lt-Less (action_cmp (action_of (get_or right j d).action) x) before) in omega (arith, up, zero))

  module _ (shared : Event → Bool) (under : Process → Process → Process) (t : Option Process) where
    -- ---- what the loop has added so far

    abbrev pub Met : List Answered → List (RuleStep A) → List (RuleStep A) → ℕ → Type 0
    Met before steps items i = map answered_of steps ≡ before ++ each_answer (meet_answer shared under x t) (map answered_of (take i items))

    -- an action that is not shared meets nothing
    pub nothing_met : is_done_together shared x ≡ false → (steps right : List (RuleStep A)) → map answered_of steps ≡ map answered_of steps ++ each_answer (meet_answer shared under x t) (map answered_of right)
    nothing_met alone steps right =
        sym (ap (λ bs. map answered_of steps ++ bs) (none_of_all (meet_answer shared under x t) right (λ k d below. let u = get_or right k d in unshared_one shared under x t (action_of u.action) (target_of u.target) alone)) ∙ append-nil (map answered_of steps))

    pub none_met : (before : List Answered) (steps items : List (RuleStep A)) → map answered_of steps ≡ before → Met before steps items 0
    none_met before steps items same = same ∙ sym (append-nil before)

    -- one more that is met
    pub one_met : is_done_together shared x ≡ true → (before : List Answered) (steps more items : List (RuleStep A)) (i : ℕ) (s made : RuleStep A) → Met before steps items i → i < length items → s ≡ get_or items i s → action_of s.action ≡ x →
        answered_of made ≡ (x, under_both under t (target_of s.target)) → more ≡ steps ++ made ∷ [] → Met before more items (i + 1)
    one_met together before steps more items i s made so_far within read same is pushed =
        let taken = map answered_of (take i items) in
        let here = (meet_answer shared under x t) (action_of s.action) (target_of s.target) in
        one_pushed steps more made here (ap (λ a. a ∷ []) is ∙ met shared under x t (action_of s.action) (target_of s.target) together same) pushed
        ∙ ap (λ bs. bs ++ here) so_far ∙ append_assoc before (each_answer (meet_answer shared under x t) taken) here
        ∙ ap (λ bs. before ++ bs) (sym (each_more (meet_answer shared under x t) taken (answered_of s)) ∙ ap (each_answer (meet_answer shared under x t)) (sym (map-append answered_of (take i items) (s ∷ []))) ∙ ap (λ ss. each_answer (meet_answer shared under x t) (map answered_of ss)) (sym (take_more items i s within ∙ ap (λ u. take i items ++ u ∷ []) (sym read))))

    module _ (right : List (RuleStep A)) (rising : AreRising right) (first : ℕ) (within : first ≤ length right) (point : IsPartitionPoint (λ s. is_before x s ≡ true) (λ s. is_before x s ≡ false) right first) (items : List (RuleStep A)) (left : items ≡ drop first right) where
      none_first : All (NoneOf {A = A} (meet_answer shared under x t)) (take first right)
      none_first =
          All-weaker (λ s. is_before x s ≡ true) (NoneOf {A = A} (meet_answer shared under x t))
          (λ s before. apart shared under x t (action_of s.action) (target_of s.target) (ap is_eq (action_total.antisymm x (action_of s.action)) ∙ ap (λ r. is_eq (ordering_reverse r)) (is_lt-Less (action_cmp (action_of s.action) x) before)))
          (take first right) (all_taken (λ s. is_before x s ≡ true) right first within point.0)

      -- what is met stands behind what comes before
      found_behind : each_answer (meet_answer shared under x t) (map answered_of right) ≡ each_answer (meet_answer shared under x t) (map answered_of items)
      found_behind = behind_none (meet_answer shared under x t) right first none_first ∙ ap (λ ss. each_answer (meet_answer shared under x t) (map answered_of ss)) (sym left)

      up : IsNonDecreasingBy rank items
      up = subst (λ ss. IsNonDecreasingBy rank ss) (sym left) (IsNonDecreasingBy-drop rank first right (rises right rising))

      not_before : All (λ s. is_before x s ≡ false) items
      not_before = subst (λ ss. All (λ s. is_before x s ≡ false) ss) (sym left) (all_dropped (λ s. is_before x s ≡ false) right first point.1)

      module _ (before : List Answered) (steps : List (RuleStep A)) (i : ℕ) (so_far : Met before steps items i) where
        -- all have been looked at
        pub met_all : length items ≤ i → map answered_of steps ≡ before ++ each_answer (meet_answer shared under x t) (map answered_of right)
        met_all done = so_far ∙ ap (λ ss. before ++ each_answer (meet_answer shared under x t) (map answered_of ss)) (take_all i items done) ∙ ap (λ bs. before ++ bs) (sym found_behind)

        -- from the first other one on, nothing is met
        pub met_until : (s : RuleStep A) → i < length items → s ≡ get_or items i s → action_eq (action_of s.action) x ≡ false → map answered_of steps ≡ before ++ each_answer (meet_answer shared under x t) (map answered_of right)
        met_until s inside read other = so_far ∙ ap (λ bs. before ++ bs) (sym (found_behind ∙ before_none (meet_answer shared under x t) items i (all_dropped (NoneOf {A = A} (meet_answer shared under x t)) items i none)))
          where
            here : rank s ≡ 2
            here = is_greater (action_cmp (action_of s.action) x) (subst (λ u. is_before x u ≡ false) (sym read) (not_before i s inside)) other

            none : AllWithin (NoneOf {A = A} (meet_answer shared under x t)) items i (length items)
            none k d from below =
                let u = get_or items k d in
                let at : get_or items i d ≡ s = get_or_default items i d s inside ∙ sym read in
                let risen : 2 ≤ rank u = let higher = up i k d from below in let two = ap rank at ∙ here in omega (arith, higher, two) in
                apart shared under x t (action_of u.action) (target_of u.target) (ap is_eq (action_total.antisymm x (action_of u.action)) ∙ greater_apart (action_cmp (action_of u.action) x) risen)

-- what a slice holds from a place on
pub sliced : {X : Type 0} (xs : List X) (i : ℕ) → take (length xs - i) (drop i xs) ≡ drop i xs
sliced xs i = let e = length-drop i xs in take_all (length xs - i) (drop i xs) (omega (arith, e))

-- ---- the derived order of actions

module _ (R : RattleType.RattleType) (H : handle.Ghosts R.Denot) (hd : Syntax.Dict) (A : allocator.Ghosts R.Denot) (ad : Syntax.Dict) (C : clone.Ghosts R.Denot) (cd : Syntax.Dict) where
  pub told_before : Lawful R H hd A ad C cd → (x y : Code.Action R.Denot) → partial_lt (partial.ghosts R H hd A ad C cd).partial_cmp y x ≡ is_lt (action_cmp (action_of y) (action_of x))
  told_before laws_hold x y = ap (is_some_and is_lt) (laws.matches_partial_cmp-law R H hd A ad C cd laws_hold y x) ∙ ap is_lt (action_ordered R H hd A ad C cd y x)

  pub told_other : (y x : Code.Action R.Denot) (r : Bool) → r ≡ not (derived_eq R H hd A ad C cd y x) → r ≡ true → action_eq (action_of y) (action_of x) ≡ false
  told_other y x r is holds = eq_of (action_tells R H hd A ad C cd) y x ∙ not-true (derived_eq R H hd A ad C cd y x) (sym is ∙ holds)

  pub told_same : (y x : Code.Action R.Denot) (r : Bool) → r ≡ not (derived_eq R H hd A ad C cd y x) → r ≡ false → action_of y ≡ action_of x
  told_same y x r is fails = (action_tells R H hd A ad C cd).sound y x (not-false (derived_eq R H hd A ad C cd y x) (sym is ∙ fails))
