-- What outcomes with names at once say of the script by tau.
use Rattle.std.proofs.Common.{◌≡◌, ◌⊎◌, inl, inr, ⊎_elim, ℕ, Bool, true, false, length, Option, Some, None, refl, sym, ◌∙◌, ap, subst}
use Rattle.std.specs.Prelude.{IfSome}
use Rattle.theory_syntax.specs.Process.{Process, Property, specification_of, Assertion, Script}
use Rattle.theory_semantics.specs.Meaning.Transitions.{IsFaulty, IsLarge, IsStuck, faulty, large}
use Rattle.theory_semantics.specs.Meaning.Runs.{trace, SomeReachable, NoneStuck}
use Rattle.theory_semantics.specs.Meaning.Properties.{HoldsPlainly}
use Rattle.theory_semantics.specs.Meaning.Violations.{Violation, IsViolation, HoldsBy}
use Rattle.theory_semantics.proofs.Refining.{no_property}
use Rattle.theory_search.specs.Outcome.{Bounds, Why, TooManyPairs, TooManyNodes, LargeTerm, Fault, NoMemory, Outcome, Holds, Fails, Unknown, Denied}
use Rattle.theory_search.specs.Answer.{IsAnswer, of_specification, of_search, MayHaveForm, as_written}
use Rattle.theory_search.specs.Telling.{HoldsWithoutStuck, HoldsSoundlyBy}
use Rattle.theory_search.specs.Truth.{SpecificationReaches, SomeSideReaches, IsAnswerOrNoMemory, IsTrueAsWritten, IsRightAsWritten}
use Rattle.theory_syntax.specs.Readings.{by_tau, at_once}
use Rattle.theory_unfolding.specs.Assertions.{IsUnfoldedProperty, of_refinement, of_deadlock, of_divergence, IsUnfoldedAssertion, SidesNeverStick}
use Rattle.theory_unfolding.specs.Told.{IsTrueByTau, HaveOneWord}
use Rattle.theory_unfolding.proofs.Answering.{holds_same, violation_back}
use Rattle.theory_unfolding.proofs.Sticking.{stuck_or_not, sides_same, stuck_back}

-- it is not unknown
abbrev IsDecided : Outcome → Type 0
IsDecided o = (why : Why) → o ≡ Unknown why → ⊥

holds_decided : IsDecided Holds
holds_decided why is = cc is

fails_decided : (v : Violation) → IsDecided (Fails v)
fails_decided v why is = cc is

denied_decided : IsDecided Denied
denied_decided why is = cc is

-- ---- outcomes as they are written

module _ (script : Script) (a : Assertion) (bounds : Bounds) where
  -- what is decided comes of a search
  searched : (p : Outcome) → IsAnswer script a bounds p → IsDecided p → MayHaveForm script (specification_of a.property) bounds.max_nodes
  searched p (of_specification why none) decided = absurd (decided why refl)
  searched p (of_search n o may least here) decided = may

  still_unknown : (n : Bool) (p : Outcome) (why : Why) → p ≡ Unknown why → as_written n p ≡ Unknown why
  still_unknown true p why is = ap (as_written true) is
  still_unknown false p why is = is

  formed : (o : Outcome) → IsAnswerOrNoMemory script a bounds o → IsDecided o → MayHaveForm script (specification_of a.property) bounds.max_nodes
  formed o (inl (p, answer, is)) decided = searched p answer (λ why unknown. decided why (is ∙ still_unknown a.negated p why unknown))
  formed o (inr none) decided = absurd (decided NoMemory none)

  -- a violation is shown without `not` alone, and with it alone is an assertion denied
  fails_plainly : (n : Bool) (p : Outcome) (v : Violation) → Fails v ≡ as_written n p → n ≡ false
  fails_plainly false p v is = refl
  fails_plainly true Holds v is = absurd (cc is)
  fails_plainly true (Fails w) v is = absurd (cc is)
  fails_plainly true (Unknown why) v is = absurd (cc is)
  fails_plainly true Denied v is = absurd (cc is)

  never_denied : (p : Outcome) → IsAnswer script a bounds p → Denied ≡ p → ⊥
  never_denied p (of_specification why none) is = cc is
  never_denied Denied (of_search n o may least here) is = absurd here
  never_denied Holds (of_search n o may least here) is = cc is
  never_denied (Fails v) (of_search n o may least here) is = cc is
  never_denied (Unknown why) (of_search n o may least here) is = cc is

  denied_by_not : (n : Bool) (p : Outcome) → IsAnswer script a bounds p → Denied ≡ as_written n p → n ≡ true
  denied_by_not true p answer is = refl
  denied_by_not false p answer is = absurd (never_denied p answer is)

  violated_plainly : (v : Violation) → IsAnswerOrNoMemory script a bounds (Fails v) → a.negated ≡ false
  violated_plainly v (inl (p, answer, is)) = fails_plainly a.negated p v is
  violated_plainly v (inr none) = absurd (cc none)

  denied_with_not : IsAnswerOrNoMemory script a bounds Denied → a.negated ≡ true
  denied_with_not (inl (p, answer, is)) = denied_by_not a.negated p answer is
  denied_with_not (inr none) = absurd (cc none)

-- ---- what they say by tau

module _ (s : Script) (a b : Assertion) (d : IsUnfoldedAssertion s a b) where
  none_stuck : (spec : Option Process) (n : ℕ) → MayHaveForm (at_once s) spec n → IfSome spec (NoneStuck (at_once s))
  none_stuck None n may = tt
  none_stuck (Some spec) n may = λ path u run. ⊎_elim (λ is. is)
      (λ stuck. absurd (may (length (trace path)) (inr (trace path, u, refl, (path, run, refl), stuck))))
      (stuck_or_not (at_once s) u)

  holds_back : HoldsWithoutStuck (at_once s) b → HoldsWithoutStuck (by_tau s) a
  holds_back h =
      let sides : SidesNeverStick (at_once s) b = record { specification = h.1; implementation = h.2 } in
      let by = (sides_same s a b d).0 sides in
      ((holds_same s a b d sides).0 h.0, by.specification, by.implementation)

  soundly_back : (n : Bool) → IfSome (specification_of b.property) (NoneStuck (at_once s)) → HoldsSoundlyBy n (at_once s) b → HoldsSoundlyBy n (by_tau s) a
  soundly_back false none h = holds_back h
  soundly_back true none h = let like = violation_back s a b h.0 d none h.1 in (like.violation, like.is_one)

  reached_back : (P : Process → Type 0) → ((t : Process) → P t → IsStuck (at_once s) t) → (t v : Process) → SomeReachable (at_once s) v P → SomeReachable (at_once s) v (IsStuck (at_once s))
  reached_back P stuck t v h = (h.0, h.1, h.2, stuck h.1 h.3)

  specification_back : (P : Process → Type 0) → ((t : Process) → P t → IsStuck (at_once s) t) → (p q : Property) → IsUnfoldedProperty s p q →
      SpecificationReaches (at_once s) (specification_of q) P → SpecificationReaches (by_tau s) (specification_of p) (IsStuck (by_tau s))
  specification_back P stuck _ _ (of_refinement {spec = spec} {new_spec = new_spec} e) h = stuck_back s spec new_spec e (reached_back P stuck spec new_spec h)
  specification_back P stuck _ _ of_deadlock h = absurd h
  specification_back P stuck _ _ of_divergence h = absurd h

  side_back : (P : Process → Type 0) → ((t : Process) → P t → IsStuck (at_once s) t) → SomeSideReaches (at_once s) b P → SomeSideReaches (by_tau s) a (IsStuck (by_tau s))
  side_back P stuck (inl h) = inl (specification_back P stuck a.property b.property d.property h)
  side_back P stuck (inr h) = inr (stuck_back s a.implementation b.implementation d.implementation (reached_back P stuck a.implementation b.implementation h))

  module _ (bounds : Bounds) where
    none_by : (o : Outcome) → IsAnswerOrNoMemory (at_once s) b bounds o → IsDecided o → IfSome (specification_of b.property) (NoneStuck (at_once s))
    none_by o answer decided = none_stuck (specification_of b.property) bounds.max_nodes (formed (at_once s) b bounds o answer decided)

    pub true_by_tau : (o : Outcome) → IsAnswerOrNoMemory (at_once s) b bounds o → IsTrueAsWritten (at_once s) b bounds o → IsTrueByTau s a o
    true_by_tau Holds answer h =
        let none = none_by Holds answer holds_decided in
        subst (λ n. HoldsSoundlyBy n (by_tau s) a) (sym d.negated) (soundly_back b.negated none h)
    true_by_tau (Fails v) answer h = violation_back s a b v d (none_by (Fails v) answer (fails_decided v)) h
    true_by_tau (Unknown TooManyPairs) answer h = tt
    true_by_tau (Unknown TooManyNodes) answer h = tt
    true_by_tau (Unknown LargeTerm) answer h = side_back (IsLarge (at_once s)) (λ t is. large is) h
    true_by_tau (Unknown (Fault c)) answer h = side_back (λ t. IsFaulty (at_once s) t c) (λ t is. faulty c is) h
    true_by_tau (Unknown NoMemory) answer h = tt
    true_by_tau Denied answer h = holds_back h

-- ---- words

-- what an assertion fails by, with `not` and without
abbrev FailsBy : Bool → Script → Assertion → Type 0
FailsBy true script a = HoldsPlainly script a
FailsBy false script a = (v : Violation) × IsViolation script a v

not_both : (script : Script) (a : Assertion) (n : Bool) → HoldsBy n script a → FailsBy n script a → ⊥
not_both script a true holds fails = no_property script a holds.0 holds.1 fails
not_both script a false holds fails = no_property script a fails.0 fails.1 holds

-- what the word of an outcome says
abbrev SaysBy : Bool → Script → Assertion → Outcome → Type 0
SaysBy n script a Holds = HoldsBy n script a
SaysBy n script a (Fails v) = FailsBy n script a
SaysBy n script a (Unknown why) = Unit {0}
SaysBy n script a Denied = FailsBy n script a

holds_by : (script : Script) (a : Assertion) (n : Bool) → HoldsSoundlyBy n script a → HoldsBy n script a
holds_by script a true h = h
holds_by script a false h = h.0

says_by_tau : (script : Script) (a : Assertion) (bounds : Bounds) (o : Outcome) → IsAnswerOrNoMemory script a bounds o → IsTrueAsWritten script a bounds o → SaysBy a.negated script a o
says_by_tau script a bounds Holds answer h = holds_by script a a.negated h
says_by_tau script a bounds (Fails v) answer h = subst (λ n. FailsBy n script a) (sym (violated_plainly script a bounds v answer)) (v, h)
says_by_tau script a bounds (Unknown why) answer h = tt
says_by_tau script a bounds Denied answer h = subst (λ n. FailsBy n script a) (sym (denied_with_not script a bounds answer)) h.0

says_at_once : (s : Script) (a b : Assertion) (bounds : Bounds) (o : Outcome) → a.negated ≡ b.negated → IsAnswerOrNoMemory (at_once s) b bounds o → IsTrueByTau s a o → SaysBy a.negated (by_tau s) a o
says_at_once s a b bounds Holds same answer h = holds_by (by_tau s) a a.negated h
says_at_once s a b bounds (Fails v) same answer h = subst (λ n. FailsBy n (by_tau s) a) (sym (same ∙ violated_plainly (at_once s) b bounds v answer)) (h.violation, h.is_one)
says_at_once s a b bounds (Unknown why) same answer h = tt
says_at_once s a b bounds Denied same answer h = subst (λ n. FailsBy n (by_tau s) a) (sym (same ∙ denied_with_not (at_once s) b bounds answer)) h.0

module _ (script : Script) (a : Assertion) where
  one_word : (o p : Outcome) → SaysBy a.negated script a o → SaysBy a.negated script a p → HaveOneWord o p
  one_word (Unknown why) p h k = inl refl
  one_word Holds (Unknown why) h k = inr (inl refl)
  one_word (Fails v) (Unknown why) h k = inr (inl refl)
  one_word Denied (Unknown why) h k = inr (inl refl)
  one_word Holds Holds h k = inr (inr refl)
  one_word Holds (Fails w) h k = absurd (not_both script a a.negated h k)
  one_word Holds Denied h k = absurd (not_both script a a.negated h k)
  one_word (Fails v) Holds h k = absurd (not_both script a a.negated k h)
  one_word (Fails v) (Fails w) h k = inr (inr refl)
  one_word (Fails v) Denied h k = inr (inr refl)
  one_word Denied Holds h k = absurd (not_both script a a.negated k h)
  one_word Denied (Fails w) h k = inr (inr refl)
  one_word Denied Denied h k = inr (inr refl)

pub words_agree : (s : Script) (a b : Assertion) (bounds others : Bounds) (o p : Outcome) → IsUnfoldedAssertion s a b →
    IsRightAsWritten (at_once s) b bounds o → IsRightAsWritten (by_tau s) a others p → HaveOneWord o p
words_agree s a b bounds others o p d right other =
    one_word (by_tau s) a o p (says_at_once s a b bounds o d.negated right.answer (true_by_tau s a b d bounds o right.answer right.true_of)) (says_by_tau (by_tau s) a others p other.answer other.true_of)
