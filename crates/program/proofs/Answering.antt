-- Right outcomes, one by one.
use Rattle.std.proofs.Common.{◌≡◌, ℕ, ◌+◌, ◌<◌, List, [], ◌∷◌, ◌++◌, length, get_or, take, map, refl, sym, ◌∙◌, ap, subst}
use Rattle.std.proofs.lemmas.List.{map-append, take_more}
use Rattle.std.specs.List.{All, AllZip}
use Rattle.theory_search.specs.Terms.{IsAssertionOf}
use Rattle.theory_syntax.specs.Process.{Assertion, ByTau, AtOnce, Unfolding, Script}
use Rattle.theory_syntax.specs.Readings.{at_once, by_tau, reading}
use Rattle.theory_semantics.specs.Meaning.Evaluation.{Cause}
use Rattle.theory_semantics.specs.Meaning.Violations.{Violation, IsViolation}
use Rattle.theory_search.specs.Outcome.{Bounds, TooManyPairs, TooManyNodes, LargeTerm, Fault, NoMemory, Outcome, Holds, Fails, Unknown, Denied}
use Rattle.theory_search.specs.Telling.{HoldsSoundlyBy, HoldsWithoutStuck}
use Rattle.theory_search.specs.Truth.{IsAnswerOrNoMemory, IsReason, IsRightAsWritten, IsTrueAsWritten}
use Rattle.theory_checking.specs.Checked.{IsCheckedText}
use Rattle.theory_unfolding.specs.Assertions.{settled_assertion}
use Rattle.theory_unfolding.proofs.Answering.{settled_assertions}
use Rattle.theory_unfolding.proofs.Outcomes.{true_by_tau}
use Rattle.theory_unfolding.proofs.SettledSides.{same_by_tau}
use Rattle.program.specs.Answering.{AreRight, AreRightSettled, IsRightRead}
use Rattle.program.specs.Reading.{IsTextRead}

-- An outcome is right where it is the one answer, and each answer that it may be says what it should.
module _ (script : Script) (a : Assertion) (bounds : Bounds) where
  is_true : (o : Outcome) → (o ≡ Holds → HoldsSoundlyBy a.negated script a) → (o ≡ Denied → HoldsWithoutStuck script a) →
      ((v : Violation) → o ≡ Fails v → IsViolation script a v) → (o ≡ Unknown TooManyPairs → IsReason script a bounds TooManyPairs) → (o ≡ Unknown TooManyNodes → IsReason script a bounds TooManyNodes) →
      (o ≡ Unknown LargeTerm → IsReason script a bounds LargeTerm) → ((cause : Cause) → o ≡ Unknown (Fault cause) → IsReason script a bounds (Fault cause)) → IsTrueAsWritten script a bounds o
  is_true Holds soundly denied fails pairs nodes term fault = soundly refl
  is_true (Fails v) soundly denied fails pairs nodes term fault = fails v refl
  is_true (Unknown TooManyPairs) soundly denied fails pairs nodes term fault = pairs refl
  is_true (Unknown TooManyNodes) soundly denied fails pairs nodes term fault = nodes refl
  is_true (Unknown LargeTerm) soundly denied fails pairs nodes term fault = term refl
  is_true (Unknown (Fault cause)) soundly denied fails pairs nodes term fault = fault cause refl
  is_true (Unknown NoMemory) soundly denied fails pairs nodes term fault = tt
  is_true Denied soundly denied fails pairs nodes term fault = denied refl

  pub is_right : (o : Outcome) → IsAnswerOrNoMemory script a bounds o → (o ≡ Holds → HoldsSoundlyBy a.negated script a) → (o ≡ Denied → HoldsWithoutStuck script a) →
      ((v : Violation) → o ≡ Fails v → IsViolation script a v) → (o ≡ Unknown TooManyPairs → IsReason script a bounds TooManyPairs) → (o ≡ Unknown TooManyNodes → IsReason script a bounds TooManyNodes) →
      (o ≡ Unknown LargeTerm → IsReason script a bounds LargeTerm) → ((cause : Cause) → o ≡ Unknown (Fault cause) → IsReason script a bounds (Fault cause)) → IsRightAsWritten script a bounds o
  is_right o answer soundly denied fails pairs nodes term fault = record { answer = answer; true_of = is_true o soundly denied fails pairs nodes term fault }

-- both sides of the assertion at a place are terms of the script
pub sides_at : {S : Type 0} (assertion_of : S → Assertion) (HasSides : S → Type 0) (script : Script) (assertions : List S) (i : ℕ) (a : S) → All HasSides assertions → i < length assertions → a ≡ get_or assertions i a →
    ((b : S) → HasSides b → IsAssertionOf script (assertion_of b)) → IsAssertionOf script (assertion_of a)
sides_at assertion_of HasSides script assertions i a all within read is = is a (subst HasSides (sym read) (all i a within))

-- one pair more at the end
pub zip_end : {X Y : Type 0} (R : X → Y → Type 0) (xs : List X) (ys : List Y) (x : X) (y : Y) → AllZip R xs ys → R x y → AllZip R (xs ++ x ∷ []) (ys ++ y ∷ [])
zip_end R [] [] x y all here = (here, tt)
zip_end R [] (w ∷ ys) x y all here = absurd all
zip_end R (v ∷ xs) [] x y all here = absurd all
zip_end R (v ∷ xs) (w ∷ ys) x y all here = (all.0, zip_end R xs ys x y all.1 here)

-- one more thing that a list is made of, with what stands beside it
pub one_more : {S O X Y : Type 0} (R : X → Y → Type 0) (of : S → X) (outcome_of : O → Y) (things : List S) (outcomes more : List O) (i : ℕ) (a : S) (o : O) →
    AllZip R (map of (take i things)) (map outcome_of outcomes) → i < length things → a ≡ get_or things i a → more ≡ outcomes ++ o ∷ [] →
    R (of a) (outcome_of o) → AllZip R (map of (take (i + 1) things)) (map outcome_of more)
one_more R of outcome_of things outcomes more i a o right within read pushed here =
    let left : map of (take (i + 1) things) ≡ map of (take i things) ++ of a ∷ [] =
    ap (map of) (take_more things i a within) ∙ map-append of (take i things) (get_or things i a ∷ []) ∙ ap (λ x. map of (take i things) ++ of x ∷ []) (sym read) in
    let behind : map outcome_of more ≡ map outcome_of outcomes ++ outcome_of o ∷ [] = ap (map outcome_of) pushed ∙ map-append outcome_of outcomes (o ∷ []) in
    rw (left, behind) (zip_end R (map of (take i things)) (map outcome_of outcomes) (of a) (outcome_of o) right here)

-- ---- how names are read

-- a script whose names do a tau
pub is_by_tau : (s : Script) → s.unfolds ≡ ByTau → by_tau s ≡ s
is_by_tau s read = ap (λ u. reading u s) (sym read)

-- a text's names do a tau
pub read_by_tau : (bytes : List ℕ) (s : Script) → IsCheckedText bytes s → IsTextRead ByTau bytes s
read_by_tau bytes s checked = let read = checked.2.script_of.unfolds in (subst (IsCheckedText bytes) (sym (is_by_tau s read)) checked, read)

pub read_at_once : (bytes : List ℕ) (s t : Script) → t ≡ at_once s → IsCheckedText bytes s → IsTextRead AtOnce bytes t
read_at_once bytes s t is checked = subst (IsTextRead AtOnce bytes) (sym is) ((read_by_tau bytes s checked).0, refl)

-- what is right for the assertion with its sides settled is right where names are read so
module _ (s : Script) (bounds : Bounds) where
  pub right_read : (names : Unfolding) → s.unfolds ≡ names → (a : Assertion) (o : Outcome) → IsRightAsWritten s (settled_assertion s a) bounds o → IsRightRead names (by_tau s) bounds a o
  right_read ByTau read a o right =
      let P : Script → Type 0 = λ z. IsRightAsWritten z a bounds o in
      let Q : Assertion → Type 0 = λ b. IsRightAsWritten s b bounds o in
      subst P (sym (is_by_tau s read)) (subst Q (same_by_tau s read a) right)
  right_read AtOnce read a o right =
      let P : Script → Type 0 = λ z. IsRightAsWritten z (settled_assertion z a) bounds o in
      let is : s ≡ at_once s = ap (λ u. reading u s) read in
      let there = subst P is right in
      record { right = there; true_by_tau = true_by_tau (by_tau s) a (settled_assertion (at_once s) a) (settled_assertions (by_tau s) a) bounds o there.answer there.true_of }

  pub all_right : (names : Unfolding) → s.unfolds ≡ names → (assertions : List Assertion) (outcomes : List Outcome) → AreRightSettled s bounds assertions outcomes →
      AreRight names (by_tau s) bounds assertions outcomes
  all_right names read [] [] all = tt
  all_right names read [] (o ∷ os) all = absurd all
  all_right names read (a ∷ others) [] all = absurd all
  all_right names read (a ∷ others) (o ∷ os) all = (right_read names read a o all.0, all_right names read others os all.1)
