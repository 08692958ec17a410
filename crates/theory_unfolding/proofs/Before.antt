-- A term is no larger than what it is unfolded to, and has no cause where that has none.
use Rattle.std.proofs.Common.{◌≡◌, ℕ, Bool, true, false, List, IsTrue, refl, sym, ◌∙◌, ap, arith, Option, Some, None, Result, Ok, Err}
use Rattle.std.specs.Option.{option_or}
use Rattle.std.specs.Result.{result_err}
use Rattle.theory_syntax.specs.Value.{Value}
use Rattle.theory_syntax.specs.Process.{Process, Stop, Skip, Guard, If, ExternalChoice, Sequential, Interleaving, Interrupt, GeneralisedParallel, AlphabetisedParallel, Hiding, Renaming, SlidingChoice, ReplicatedExternalChoice, ReplicatedInterleaving, Script}
use Rattle.theory_semantics.specs.Meaning.Evaluation.{Cause}
use Rattle.theory_semantics.specs.Meaning.Limits.{fits}
use Rattle.theory_semantics.specs.Meaning.Events.{condition, elements, instances}
use Rattle.theory_semantics.specs.Meaning.Faults.{in_branch, first_cause, in_instances, cause_in}
use Rattle.theory_semantics.specs.Meaning.Chains.{chain}
use Rattle.theory_semantics.specs.Meaning.Unfolding.{where_true, picked, chained, stands_for}
use Rattle.theory_semantics.proofs.Causes.{external_cause, sequential_cause, interleaving_cause, interrupt_cause, sliding_cause, generalised_cause, alphabetised_cause, if_cause, replicated_external_cause, replicated_interleaving_cause}
use Rattle.theory_semantics.proofs.Sizes.{Within, within_of, fits_part}
use Rattle.theory_semantics.proofs.Chains.{external_chain_cause, interleaving_chain_cause}
use Rattle.theory_syntax.specs.Readings.{by_tau}
use Rattle.theory_unfolding.specs.Unfolded.{UnfoldsTo, itself, body, seen_through, external, sequential_first, interleaved, interrupted, generalised, alphabetised, hidden, renamed, slid}

none_first : (c d : Option Cause) → option_or c d ≡ None → c ≡ None
none_first None d e = refl
none_first (Some c) d e = e

none_second : (c d : Option Cause) → option_or c d ≡ None → d ≡ None
none_second None d e = e
none_second (Some c) d e = absurd (cc e)

both_none : (c d : Option Cause) → c ≡ None → d ≡ None → option_or c d ≡ None
both_none c d e f = rw (e, f) refl

-- the causes of what a condition picks, or of the instances
true_none : (r : Result Bool Cause) (p q : Process) (look : Process → Option Cause) → where_true r p ≡ Some q → look q ≡ None → in_branch r (look p) None ≡ None
true_none (Ok true) p q look e none = let same : p ≡ q = cc e in rw same none
true_none (Ok false) p q look e none = absurd (cc e)
true_none (Err c) p q look e none = absurd (cc e)

picked_none : (r : Result Bool Cause) (p o q : Process) (look : Process → Option Cause) → picked r p o ≡ Some q → look q ≡ None → in_branch r (look p) (look o) ≡ None
picked_none (Ok true) p o q look e none = let same : p ≡ q = cc e in rw same none
picked_none (Ok false) p o q look e none = let same : o ≡ q = cc e in rw same none
picked_none (Err c) p o q look e none = absurd (cc e)

chained_none : (op : Process → Process → Process) (empty : Process) (n : ℕ) (p : Process) (r : Result (List Value) Cause) (q : Process) (look : Process → Option Cause) →
    ((ps : List Process) → look (chain op empty ps) ≡ first_cause look ps) → chained op empty n p r ≡ Some q → look q ≡ None → in_instances r (λ vs. first_cause look (instances n p vs)) ≡ None
chained_none op empty n p (Ok vs) q look chains e none =
    let same : chain op empty (instances n p vs) ≡ q = cc e in sym (chains (instances n p vs)) ∙ (ap look same ∙ none)
chained_none op empty n p (Err c) q look chains e none = absurd (cc e)

module _ (s : Script) where
  -- a term is no larger than what it is unfolded to, where that is within the limits
  pub no_larger : {n k : ℕ} {t v : Process} → UnfoldsTo s n k t v → IsTrue (fits v) → Within t v
  no_larger itself h = record { sizes = omega arith; depths = omega arith }
  no_larger (body {c = c} {es = es} {v = v} is smaller d) h = within_of _ v smaller h
  no_larger (seen_through {p = p} {v = v} is smaller d) h = within_of p v smaller h
  no_larger (external {v = v} {w = w} d e) h =
      let l = no_larger d (fits_part v (ExternalChoice v w) (omega arith) (omega arith) h) in
      let r = no_larger e (fits_part w (ExternalChoice v w) (omega arith) (omega arith) h) in
      record { sizes = omega (arith, l.sizes, r.sizes); depths = omega (arith, l.depths, r.depths) }
  no_larger (sequential_first {q = q} {v = v} d) h =
      let l = no_larger d (fits_part v (Sequential v q) (omega arith) (omega arith) h) in record { sizes = omega (arith, l.sizes); depths = omega (arith, l.depths) }
  no_larger (interleaved {v = v} {w = w} d e) h =
      let l = no_larger d (fits_part v (Interleaving v w) (omega arith) (omega arith) h) in
      let r = no_larger e (fits_part w (Interleaving v w) (omega arith) (omega arith) h) in
      record { sizes = omega (arith, l.sizes, r.sizes); depths = omega (arith, l.depths, r.depths) }
  no_larger (interrupted {v = v} {w = w} d e) h =
      let l = no_larger d (fits_part v (Interrupt v w) (omega arith) (omega arith) h) in
      let r = no_larger e (fits_part w (Interrupt v w) (omega arith) (omega arith) h) in
      record { sizes = omega (arith, l.sizes, r.sizes); depths = omega (arith, l.depths, r.depths) }
  no_larger (generalised {v = v} {w = w} {a = a} d e) h =
      let l = no_larger d (fits_part v (GeneralisedParallel v a w) (omega arith) (omega arith) h) in
      let r = no_larger e (fits_part w (GeneralisedParallel v a w) (omega arith) (omega arith) h) in
      record { sizes = omega (arith, l.sizes, r.sizes); depths = omega (arith, l.depths, r.depths) }
  no_larger (alphabetised {v = v} {w = w} {a = a} {b = b} d e) h =
      let l = no_larger d (fits_part v (AlphabetisedParallel v a b w) (omega arith) (omega arith) h) in
      let r = no_larger e (fits_part w (AlphabetisedParallel v a b w) (omega arith) (omega arith) h) in
      record { sizes = omega (arith, l.sizes, r.sizes); depths = omega (arith, l.depths, r.depths) }
  no_larger (hidden {v = v} {a = a} d) h =
      let l = no_larger d (fits_part v (Hiding v a) (omega arith) (omega arith) h) in record { sizes = omega (arith, l.sizes); depths = omega (arith, l.depths) }
  no_larger (renamed {v = v} {rs = rs} d) h =
      let l = no_larger d (fits_part v (Renaming v rs) (omega arith) (omega arith) h) in record { sizes = omega (arith, l.sizes); depths = omega (arith, l.depths) }
  no_larger (slid {q = q} {v = v} d) h =
      let l = no_larger d (fits_part v (SlidingChoice v q) (omega arith) (omega arith) h) in record { sizes = omega (arith, l.sizes); depths = omega (arith, l.depths) }

  -- what is unfolded to a term within the limits is within them
  pub fits_before : {n k : ℕ} {t v : Process} → UnfoldsTo s n k t v → IsTrue (fits v) → IsTrue (fits t)
  fits_before {t = t} {v = v} d h = let l = no_larger d h in fits_part t v l.sizes l.depths h

  abbrev Causeless : Process → Type 0
  Causeless p = cause_in (by_tau s) p ≡ None

  stand_none : (t q : Process) → stands_for s t ≡ Some q → Causeless q → Causeless t
  stand_none (Guard c p) q e none = true_none (condition s.types c) p q (cause_in (by_tau s)) e none
  stand_none (If c p o) q e none = if_cause (by_tau s) c p o ∙ picked_none (condition s.types c) p o q (cause_in (by_tau s)) e none
  stand_none (ReplicatedExternalChoice n c p) q e none = replicated_external_cause (by_tau s) n c p
      ∙ chained_none ExternalChoice Stop n p (elements s.types c) q (cause_in (by_tau s)) (external_chain_cause (by_tau s)) e none
  stand_none (ReplicatedInterleaving n c p) q e none = replicated_interleaving_cause (by_tau s) n c p
      ∙ chained_none Interleaving Skip n p (elements s.types c) q (cause_in (by_tau s)) (interleaving_chain_cause (by_tau s)) e none
  stand_none t q e none = absurd (cc e)

  pub cause_before : {n k : ℕ} {t v : Process} → UnfoldsTo s n k t v → Causeless v → Causeless t
  cause_before itself none = none
  cause_before (body is smaller d) none = ap result_err is
  cause_before (seen_through {p = p} {q = q} is smaller d) none = stand_none p q is (cause_before d none)
  cause_before (external {p = p} {q = q} {v = v} {w = w} d e) none =
      let h = sym (external_cause (by_tau s) v w) ∙ none in
      external_cause (by_tau s) p q ∙ both_none _ _ (cause_before d (none_first _ _ h)) (cause_before e (none_second _ _ h))
  cause_before (sequential_first {p = p} {q = q} {v = v} d) none = sequential_cause (by_tau s) p q ∙ cause_before d (sym (sequential_cause (by_tau s) v q) ∙ none)
  cause_before (interleaved {p = p} {q = q} {v = v} {w = w} d e) none =
      let h = sym (interleaving_cause (by_tau s) v w) ∙ none in
      interleaving_cause (by_tau s) p q ∙ both_none _ _ (cause_before d (none_first _ _ h)) (cause_before e (none_second _ _ h))
  cause_before (interrupted {p = p} {q = q} {v = v} {w = w} d e) none =
      let h = sym (interrupt_cause (by_tau s) v w) ∙ none in
      interrupt_cause (by_tau s) p q ∙ both_none _ _ (cause_before d (none_first _ _ h)) (cause_before e (none_second _ _ h))
  cause_before (generalised {p = p} {q = q} {v = v} {w = w} {a = a} d e) none =
      let h = sym (generalised_cause (by_tau s) v a w) ∙ none in
      let i = none_second _ _ h in
      generalised_cause (by_tau s) p a q ∙ both_none _ _ (none_first _ _ h) (both_none _ _ (cause_before d (none_first _ _ i)) (cause_before e (none_second _ _ i)))
  cause_before (alphabetised {p = p} {q = q} {v = v} {w = w} {a = a} {b = b} d e) none =
      let h = sym (alphabetised_cause (by_tau s) v a b w) ∙ none in
      let g = none_second _ _ h in
      let i = none_second _ _ g in
      alphabetised_cause (by_tau s) p a b q ∙
      both_none _ _ (none_first _ _ h) (both_none _ _ (none_first _ _ g) (both_none _ _ (cause_before d (none_first _ _ i)) (cause_before e (none_second _ _ i))))
  cause_before (hidden d) none = both_none _ _ (none_first _ _ none) (cause_before d (none_second _ _ none))
  cause_before (renamed d) none = both_none _ _ (none_first _ _ none) (cause_before d (none_second _ _ none))
  cause_before (slid {p = p} {q = q} {v = v} d) none =
      let h = sym (sliding_cause (by_tau s) v q) ∙ none in
      sliding_cause (by_tau s) p q ∙ both_none _ _ (cause_before d (none_first _ _ h)) (none_second _ _ h)
