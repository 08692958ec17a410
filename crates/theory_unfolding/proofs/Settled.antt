-- A settled term is the term with some active calls unfolded.
use Rattle.std.proofs.Common.{◌≡◌, ℕ, zero, suc, Bool, true, false, cond, Option, Some, None, Result, Ok, Err, refl, sym, ◌∙◌, IsTrue}
use Rattle.std.specs.Ordering.{is_eq}
use Rattle.theory_syntax.specs.Expression.{Expressions}
use Rattle.theory_syntax.specs.Process.{Process, Call, ExternalChoice, Sequential, Interleaving, Interrupt, GeneralisedParallel, AlphabetisedParallel, Hiding, Renaming, SlidingChoice, Script}
use Rattle.theory_syntax.specs.Order.{process_cmp}
use Rattle.theory_syntax.proofs.ProcessOrder.{process_refl}
use Rattle.theory_semantics.specs.Meaning.Evaluation.{Cause}
use Rattle.theory_semantics.specs.Meaning.Limits.{fits}
use Rattle.theory_semantics.specs.Meaning.Events.{called}
use Rattle.theory_semantics.specs.Meaning.Unfolding.{most_unfoldings, is_no_larger, in_place_of, body_or, unless_called, changed_or, stands_for, unfolded_or, unfold_calls, settled_within, settled}
use Rattle.theory_semantics.proofs.Sizes.{no_larger_grown}
use Rattle.theory_syntax.specs.Readings.{at_once}
use Rattle.theory_unfolding.specs.Unfolded.{UnfoldsTo, itself, body, seen_through, external, sequential_first, interleaved, interrupted, generalised, alphabetised, hidden, renamed, slid, IsUnfoldedTo}
use Rattle.theory_unfolding.proofs.Counting.{none_unfolded}
use Rattle.theory_unfolding.proofs.Before.{no_larger}

-- what is equal compares equal
equal_is_eq : (p q : Process) → p ≡ q → is_eq (process_cmp p q) ≡ true
equal_is_eq p q e = rw (← e, process_refl p) refl

module _ (s : Script) where
  abbrev Some_unfolded : ℕ → Process → Process → Type 0
  Some_unfolded n p v = (k : ℕ) × UnfoldsTo s n k p v

  unless_unfolded : (n : ℕ) (c : Option Process) (p v : Process) → Some_unfolded n p v → Some_unfolded n p (unless_called c p v)
  unless_unfolded n (Some c) p v h = by_test (is_eq (process_cmp c p))
    where
      by_test : (b : Bool) → Some_unfolded n p (cond b p v)
      by_test true = (0, itself)
      by_test false = h
  unless_unfolded n None p v h = h

  module _ (n : ℕ) (go_on : Process → Process) (on : (t : Process) → Some_unfolded n t (go_on t)) where
    by_size : (c : ℕ) (es : Expressions) (t : Process) → called s c es ≡ Ok t → (b : Bool) → is_no_larger (Call c es) t ≡ b → Some_unfolded (suc n) (Call c es) (cond b (go_on t) (Call c es))
    by_size c es t is true smaller = (suc (on t).0, body is (no_larger_grown (Call c es) t (go_on t) smaller (no_larger s (on t).1)) (on t).1)
    by_size c es t is false smaller = (0, itself)

    by_result : (c : ℕ) (es : Expressions) (r : Result Process Cause) → called s c es ≡ r → Some_unfolded (suc n) (Call c es) (body_or go_on (Call c es) r)
    by_result c es (Ok t) is = by_size c es t is (is_no_larger (Call c es) t) refl
    by_result c es (Err e) is = (0, itself)

    by_count : (p q v : Process) → stands_for s p ≡ Some q → IsTrue (is_no_larger p v) → (k : ℕ) → UnfoldsTo s n k q v → is_eq (process_cmp q v) ≡ false → Some_unfolded (suc n) p v
    by_count p q v is no_larger zero d differ = absurd (let e = sym (equal_is_eq q v (none_unfolded s d refl)) ∙ differ in cc e)
    by_count p q v is no_larger (suc k) d differ = (suc k, seen_through is no_larger d)

    by_place : (p q : Process) → stands_for s p ≡ Some q → is_eq (process_cmp q (go_on q)) ≡ false → (b : Bool) → is_no_larger p (go_on q) ≡ b → Some_unfolded (suc n) p (cond b (go_on q) p)
    by_place p q is differ true no_larger = by_count p q (go_on q) is no_larger (on q).0 (on q).1 differ
    by_place p q is differ false no_larger = (0, itself)

    by_change : (p q : Process) → stands_for s p ≡ Some q → (b : Bool) → is_eq (process_cmp q (go_on q)) ≡ b → Some_unfolded (suc n) p (cond b p (in_place_of p (go_on q)))
    by_change p q is true same = (0, itself)
    by_change p q is false differ = by_place p q is differ (is_no_larger p (go_on q)) refl

    by_limits : (p q : Process) → stands_for s p ≡ Some q → (b : Bool) → Some_unfolded (suc n) p (cond b (changed_or p q (go_on q)) p)
    by_limits p q is true = by_change p q is (is_eq (process_cmp q (go_on q))) refl
    by_limits p q is false = (0, itself)

    by_standing : (p : Process) (o : Option Process) → stands_for s p ≡ o → Some_unfolded (suc n) p (unfolded_or go_on p o)
    by_standing p (Some q) is = by_limits p q is (fits q)
    by_standing p None is = (0, itself)

  module _ (n : ℕ) (go_on : Option Process → Process → Process) (on : (c : Option Process) (t : Process) → Some_unfolded n t (go_on c t)) (c : Option Process) where
    calls_unfolded : (p : Process) → Some_unfolded (suc n) p (unfold_calls (at_once s) go_on c p)
    calls_unfolded (Call d es) = unless_unfolded (suc n) c (Call d es) (body_or (go_on (Some (Call d es))) (Call d es) (called s d es))
        (by_result n (go_on (Some (Call d es))) (on (Some (Call d es))) d es (called s d es) refl)
    calls_unfolded (ExternalChoice p q) = let d = calls_unfolded p in let e = calls_unfolded q in (_, external d.1 e.1)
    calls_unfolded (Sequential p q) = let d = calls_unfolded p in (_, sequential_first d.1)
    calls_unfolded (Interleaving p q) = let d = calls_unfolded p in let e = calls_unfolded q in (_, interleaved d.1 e.1)
    calls_unfolded (Interrupt p q) = let d = calls_unfolded p in let e = calls_unfolded q in (_, interrupted d.1 e.1)
    calls_unfolded (GeneralisedParallel p a q) = let d = calls_unfolded p in let e = calls_unfolded q in (_, generalised d.1 e.1)
    calls_unfolded (AlphabetisedParallel p a b q) = let d = calls_unfolded p in let e = calls_unfolded q in (_, alphabetised d.1 e.1)
    calls_unfolded (Hiding p a) = let d = calls_unfolded p in (_, hidden d.1)
    calls_unfolded (Renaming p rs) = let d = calls_unfolded p in (_, renamed d.1)
    calls_unfolded (SlidingChoice p q) = let d = calls_unfolded p in (_, slid d.1)
    calls_unfolded p = by_standing n (go_on c) (on c) p (stands_for s p) refl

  within_unfolded : (n : ℕ) (c : Option Process) (p : Process) → Some_unfolded n p (settled_within n (at_once s) c p)
  within_unfolded zero c p = (0, itself)
  within_unfolded (suc n) c p = calls_unfolded n (settled_within n (at_once s)) (within_unfolded n) c p

  pub settled_unfolded : (p : Process) → IsUnfoldedTo s p (settled (at_once s) p)
  settled_unfolded p = within_unfolded most_unfoldings None p
