-- Sorting steps and keeping each once leaves the same steps, which rise.
use denote.RattleType
use mir.Syntax
use Rattle.std.proofs.Common.{◌≡◌, Bool, true, false, List, [], ◌∷◌, map, Contains, ◌↔◌, refl, sym, ◌∙◌, ap, ap₂, inl, inr}
use Rattle.std.specs.declared.alloc.Allocator as allocator
use Rattle.std.specs.declared.clone.Clone as clone
use Rattle.std.specs.declared.cmp.Ordering.{Ordering}
use Rattle.std.specs.Ordering.{is_lt, ordering_then}
use Rattle.std.specs.List.{dedup, dedup_from}
use Rattle.std.specs.List.Sorted.{IsPermutation, IsSorted, IsStrictlySortedBy}
use Rattle.std.proofs.lemmas.List.Kept.{IsStrictlySortedBy-dedup}
use Rattle.std.proofs.lemmas.List.Sorted.{Contains-permutation, IsPermutation-map, IsPermutation-sym}
use Rattle.theory_syntax.specs.Value as pure
use Rattle.theory_syntax.specs.Process.{Process}
use Rattle.theory_syntax.proofs.Truths.{and_first, and_second}
use Rattle.theory_semantics.specs.Meaning.Expansions.{step_cmp}
use Rattle.theory_semantics.specs.Meaning.Offers.{RisesBy}
use Rattle.theory_semantics.specs.Laws.Statements.{IsOneOf}
use Rattle.csp_value.specs.contracts.handle.AllocHandle.TheBound.{Lawful}
use Rattle.csp_value.specs.declared.handle.AllocHandle as handle
use Rattle.csp_value.proofs.ActionOrder.{action_ordered}
use Rattle.csp_value.proofs.ActionEquality.{action_eq, action_tells}
use Rattle.csp_term.proofs.Equality.{term_eq, term_tells}
use Rattle.csp_term.proofs.TermOrder.{ordered}
use Rattle.csp_fire.specs.declared.form.Step.{Step}
use Rattle.csp_fire.specs.contracts.form.StepOrd.TheImpl as impl
use Rattle.csp_fire.specs.contracts.form.StepPartialEq.TheImpl as equality
use Rattle.csp_fire.specs.contracts.form.StepOrd.TheImpl.Laws as laws
use Rattle.csp_fire.specs.Form.{step_of}
use Rattle.csp_steps.proofs.Answered.{contains_one_of, one_of_contains}

-- ---- keeping each once, by what it stands for

module _ {X : Type 0} (meaning : X → pure.Action × Process) (same : X → X → Bool) (tells : (x y : X) → same x y ≡ true → meaning x ≡ meaning y) (a : pure.Action) (t : Process) where
  abbrev Among : List X → Type 0
  Among xs = IsOneOf (map meaning xs) a t

  abbrev IsIt : X → Type 0
  IsIt x = (a ≡ (meaning x).0) × (t ≡ (meaning x).1)

  moved_on : (x y : X) → same x y ≡ true → IsIt x → IsIt y
  moved_on x y e is = (is.0 ∙ ap (λ s. s.0) (tells x y e), is.1 ∙ ap (λ s. s.1) (tells x y e))

  kept_to : (k : X) (xs : List X) → Among (k ∷ xs) → Among (dedup_from same k xs)
  kept_to k [] h = h
  kept_to k (x ∷ xs) h = by_test (same x k) refl (kept_to k xs) (kept_to x xs) h
    where
      by_test : (b : Bool) → same x k ≡ b → (Among (k ∷ xs) → Among (dedup_from same k xs)) → (Among (x ∷ xs) → Among (dedup_from same x xs)) → Among (k ∷ x ∷ xs) → Among (dedup_from same k (x ∷ xs))
      by_test true is one other (inl e) = rw is (one (inl e))
      by_test true is one other (inr (inl e)) = rw is (one (inl (moved_on x k is e)))
      by_test true is one other (inr (inr m)) = rw is (one (inr m))
      by_test false is one other (inl e) = rw is (inl e)
      by_test false is one other (inr m) = rw is (inr (other m))

  further : (k x : X) (xs : List X) → Among (k ∷ xs) → Among (k ∷ x ∷ xs)
  further k x xs (inl e) = inl e
  further k x xs (inr m) = inr (inr m)

  or_other : (k x : X) (xs ys : List X) → (Among ys → Among (x ∷ xs)) → Among (k ∷ ys) → Among (k ∷ x ∷ xs)
  or_other k x xs ys other (inl e) = inl e
  or_other k x xs ys other (inr m) = inr (other m)

  kept_from : (k : X) (xs : List X) → Among (dedup_from same k xs) → Among (k ∷ xs)
  kept_from k [] h = h
  kept_from k (x ∷ xs) h = by_test (same x k) refl (kept_from k xs) (kept_from x xs) h
    where
      by_test : (b : Bool) → same x k ≡ b → (Among (dedup_from same k xs) → Among (k ∷ xs)) → (Among (dedup_from same x xs) → Among (x ∷ xs)) → Among (dedup_from same k (x ∷ xs)) → Among (k ∷ x ∷ xs)
      by_test true is one other = rw is (λ m. further k x xs (one m))
      by_test false is one other = rw is (λ m. or_other k x xs (dedup_from same x xs) other m)

  once_to : (xs : List X) → Among xs → Among (dedup same xs)
  once_to [] h = h
  once_to (x ∷ xs) h = kept_to x xs h

  once_from : (xs : List X) → Among (dedup same xs) → Among xs
  once_from [] h = h
  once_from (x ∷ xs) h = kept_from x xs h

module _ {X : Type 0} (meaning : X → pure.Action × Process) (same : X → X → Bool) (tells : (x y : X) → same x y ≡ true → meaning x ≡ meaning y) where
  -- the steps are those that were there
  same_steps : (given sorted : List X) → IsPermutation given sorted → (s : pure.Action × Process) → Contains (map meaning given) s ↔ Contains (map meaning (dedup same sorted)) s
  same_steps given sorted moved s =
      let there = IsPermutation-map meaning given sorted moved in
      let ms = map meaning sorted in
      let os = map meaning (dedup same sorted) in (
        λ h. contains_one_of os s.0 s.1 (once_to meaning same tells s.0 s.1 sorted (one_of_contains ms s.0 s.1 (Contains-permutation (map meaning given) ms s there h))),
        λ h. Contains-permutation ms (map meaning given) s (IsPermutation-sym (map meaning given) ms there) (contains_one_of ms s.0 s.1 (once_from meaning same tells s.0 s.1 sorted (one_of_contains os s.0 s.1 h))),
      )

-- what is sorted stands for what rises
rise_by : {X Y : Type 0} (R : X → X → Ordering) (S : Y → Y → Ordering) (meaning : X → Y) → ((x y : X) → R x y ≡ S (meaning x) (meaning y)) → (xs : List X) → IsStrictlySortedBy R xs → RisesBy S (map meaning xs)
unfolding IsStrictlySortedBy
rise_by R S meaning same [] sorted = tt
rise_by R S meaning same (x ∷ []) sorted = tt
rise_by R S meaning same (x ∷ y ∷ ys) sorted = (ap is_lt (sym (same x y) ∙ sorted.0.0), rise_by R S meaning same (y ∷ ys) sorted.1)

-- ---- the derived order and equality of steps

module _ (R : RattleType.RattleType) (H : handle.Ghosts R.Denot) (hd : Syntax.Dict) (A : allocator.Ghosts R.Denot) (ad : Syntax.Dict) (C : clone.Ghosts R.Denot) (cd : Syntax.Dict) where
  abbrev order : Step R.Denot → Step R.Denot → Ordering
  order = (impl.ghosts R H hd A ad C cd).cmp

  steps_ordered : (s t : Step R.Denot) → order s t ≡ step_cmp (step_of s) (step_of t)
  steps_ordered s t = ap₂ ordering_then (action_ordered R H hd A ad C cd s.action t.action) (ordered R A ad ad s.target t.target)

  abbrev pub step_eq : Step R.Denot → Step R.Denot → Bool
  step_eq = (equality.ghosts R H hd A ad C cd).eq

  steps_told : (s t : Step R.Denot) → step_eq s t ≡ true → step_of s ≡ step_of t
  steps_told s t e =
      let acts = action_eq R H hd A ad C cd s.action t.action in
      let leads = term_eq R A ad ad s.target t.target in
      let action = (action_tells R H hd A ad C cd).sound s.action t.action (and_first acts leads e) in
      let target = (term_tells R A ad ad).sound s.target t.target (and_second acts leads e) in
      λ i. (action i, target i)

  -- the steps after sorting and keeping each once
  module _ (given sorted : List (Step R.Denot)) (moved : IsPermutation given sorted) where
    pub steps_stay : (s : pure.Action × Process) → Contains (map step_of given) s ↔ Contains (map step_of (dedup step_eq sorted)) s
    steps_stay = same_steps step_of step_eq steps_told given sorted moved

    pub steps_rise : Lawful R H hd A ad C cd → IsSorted order sorted → RisesBy step_cmp (map step_of (dedup step_eq sorted))
    steps_rise laws_hold in_order =
        rise_by order step_cmp step_of steps_ordered (dedup step_eq sorted) (IsStrictlySortedBy-dedup (laws.total-law R H hd A ad C cd laws_hold) (laws.matches_eq-law R H hd A ad C cd laws_hold) sorted in_order)
