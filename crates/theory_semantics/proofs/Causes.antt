-- The first cause of a term by the first causes of its parts.
use Rattle.std.proofs.Common.{◌≡◌, ℕ, zero, suc, ◌≤◌, max, List, [], ◌∷◌, refl, ap, ap₂, arith, Option, None, Result, Ok, Err}
use Rattle.std.specs.Option.{option_or}
use Rattle.std.specs.Result.{result_err}
use Rattle.theory_syntax.specs.Value.{Value}
use Rattle.theory_semantics.specs.Meaning.Evaluation.{Cause}
use Rattle.theory_syntax.specs.Expression.{Expression}
use Rattle.theory_syntax.specs.Process.{EventSet, Process, Stop, Skip, Omega, Call, Prefix, Guard, If, ExternalChoice, InternalChoice, Sequential, Interleaving, Interrupt, GeneralisedParallel, AlphabetisedParallel, Hiding, Renaming, ReplicatedExternalChoice, ReplicatedInternalChoice, ReplicatedInterleaving, SlidingChoice, Script}
use Rattle.theory_semantics.specs.Meaning.Substitution.{Bindings, put, behind, without}
use Rattle.theory_semantics.specs.Meaning.Events.{condition, elements, event_test, renaming, instances}
use Rattle.theory_semantics.specs.Meaning.Faults.{height, in_branch, first_cause, in_instances, in_internal_chain, cause_within, cause_in}

pub height-put : (bs : Bindings) (p : Process) → height (put bs p) ≡ height p
height-put bs Stop = refl
height-put bs Skip = refl
height-put bs Omega = refl
height-put bs (Call n es) = refl
height-put bs (Prefix c fs p) = ap suc (height-put (behind bs fs) p)
height-put bs (Guard e p) = ap suc (height-put bs p)
height-put bs (If e p q) = ap₂ (λ m n. suc (max m n)) (height-put bs p) (height-put bs q)
height-put bs (ExternalChoice p q) = ap₂ (λ m n. suc (max m n)) (height-put bs p) (height-put bs q)
height-put bs (InternalChoice p q) = ap₂ (λ m n. suc (max m n)) (height-put bs p) (height-put bs q)
height-put bs (Sequential p q) = ap₂ (λ m n. suc (max m n)) (height-put bs p) (height-put bs q)
height-put bs (Interleaving p q) = ap₂ (λ m n. suc (max m n)) (height-put bs p) (height-put bs q)
height-put bs (Interrupt p q) = ap₂ (λ m n. suc (max m n)) (height-put bs p) (height-put bs q)
height-put bs (GeneralisedParallel p a q) = ap₂ (λ m n. suc (max m n)) (height-put bs p) (height-put bs q)
height-put bs (AlphabetisedParallel p a b q) = ap₂ (λ m n. suc (max m n)) (height-put bs p) (height-put bs q)
height-put bs (Hiding p a) = ap suc (height-put bs p)
height-put bs (Renaming p rs) = ap suc (height-put bs p)
height-put bs (ReplicatedExternalChoice n e p) = ap suc (height-put (without n bs) p)
height-put bs (ReplicatedInternalChoice n e p) = ap suc (height-put (without n bs) p)
height-put bs (ReplicatedInterleaving n e p) = ap suc (height-put (without n bs) p)
height-put bs (SlidingChoice p q) = ap₂ (λ m n. suc (max m n)) (height-put bs p) (height-put bs q)

pub height-pos : (p : Process) → 1 ≤ height p
height-pos Stop = omega arith
height-pos _ = omega arith

first_cause-same : (f g : Process → Option Cause) (x : ℕ) (p : Process) (vs : List Value) → ((v : Value) → f (put ((x, v) ∷ []) p) ≡ g (put ((x, v) ∷ []) p)) →
    first_cause f (instances x p vs) ≡ first_cause g (instances x p vs)
first_cause-same f g x p [] same = refl
first_cause-same f g x p (v ∷ vs) same = ap₂ option_or (same v) (first_cause-same f g x p vs same)

internal-same : (f g : Process → Option Cause) (x : ℕ) (p : Process) (vs : List Value) → ((v : Value) → f (put ((x, v) ∷ []) p) ≡ g (put ((x, v) ∷ []) p)) →
    in_internal_chain f (instances x p vs) ≡ in_internal_chain g (instances x p vs)
internal-same f g x p [] same = refl
internal-same f g x p (v ∷ []) same = same v
internal-same f g x p (v ∷ w ∷ vs) same = refl

in_instances-same : (r : Result (List Value) Cause) (f g : List Value → Option Cause) → ((vs : List Value) → f vs ≡ g vs) → in_instances r f ≡ in_instances r g
in_instances-same (Ok vs) f g same = same vs
in_instances-same (Err c) f g same = refl

-- Looking deeper than the height finds the same.
pub cause-enough : (n m : ℕ) (s : Script) (p : Process) → height p ≤ n → height p ≤ m → cause_within n s p ≡ cause_within m s p
cause-enough zero m s p h k = absurd (omega (arith, height-pos p))
cause-enough (suc n) zero s p h k = absurd (omega (arith, height-pos p))
cause-enough (suc n) (suc m) s Stop h k = refl
cause-enough (suc n) (suc m) s Skip h k = refl
cause-enough (suc n) (suc m) s Omega h k = refl
cause-enough (suc n) (suc m) s (Call c es) h k = refl
cause-enough (suc n) (suc m) s (Prefix c fs p) h k = refl
cause-enough (suc n) (suc m) s (Guard e p) h k = ap (λ c. in_branch (condition s.types e) c None) (cause-enough n m s p (omega arith) (omega arith))
cause-enough (suc n) (suc m) s (If e p q) h k = ap₂ (in_branch (condition s.types e)) (cause-enough n m s p (omega arith) (omega arith)) (cause-enough n m s q (omega arith) (omega arith))
cause-enough (suc n) (suc m) s (ExternalChoice p q) h k = ap₂ option_or (cause-enough n m s p (omega arith) (omega arith)) (cause-enough n m s q (omega arith) (omega arith))
cause-enough (suc n) (suc m) s (InternalChoice p q) h k = refl
cause-enough (suc n) (suc m) s (Sequential p q) h k = cause-enough n m s p (omega arith) (omega arith)
cause-enough (suc n) (suc m) s (Interleaving p q) h k = ap₂ option_or (cause-enough n m s p (omega arith) (omega arith)) (cause-enough n m s q (omega arith) (omega arith))
cause-enough (suc n) (suc m) s (Interrupt p q) h k = ap₂ option_or (cause-enough n m s p (omega arith) (omega arith)) (cause-enough n m s q (omega arith) (omega arith))
cause-enough (suc n) (suc m) s (GeneralisedParallel p a q) h k =
    ap₂ (λ c d. option_or (result_err (event_test s a)) (option_or c d)) (cause-enough n m s p (omega arith) (omega arith)) (cause-enough n m s q (omega arith) (omega arith))
cause-enough (suc n) (suc m) s (AlphabetisedParallel p a b q) h k =
    ap₂ (λ c d. option_or (result_err (event_test s a)) (option_or (result_err (event_test s b)) (option_or c d))) (cause-enough n m s p (omega arith) (omega arith))
    (cause-enough n m s q (omega arith) (omega arith))
cause-enough (suc n) (suc m) s (Hiding p a) h k = ap (option_or (result_err (event_test s a))) (cause-enough n m s p (omega arith) (omega arith))
cause-enough (suc n) (suc m) s (Renaming p rs) h k = ap (option_or (result_err (renaming s rs))) (cause-enough n m s p (omega arith) (omega arith))
cause-enough (suc n) (suc m) s (ReplicatedExternalChoice x e p) h k =
    in_instances-same (elements s.types e) _ _ (λ vs. first_cause-same (cause_within n s) (cause_within m s) x p vs
    (λ v. cause-enough n m s (put ((x, v) ∷ []) p) (omega (arith, height-put ((x, v) ∷ []) p)) (omega (arith, height-put ((x, v) ∷ []) p))))
cause-enough (suc n) (suc m) s (ReplicatedInternalChoice x e p) h k =
    in_instances-same (elements s.types e) _ _ (λ vs. internal-same (cause_within n s) (cause_within m s) x p vs
    (λ v. cause-enough n m s (put ((x, v) ∷ []) p) (omega (arith, height-put ((x, v) ∷ []) p)) (omega (arith, height-put ((x, v) ∷ []) p))))
cause-enough (suc n) (suc m) s (ReplicatedInterleaving x e p) h k =
    in_instances-same (elements s.types e) _ _ (λ vs. first_cause-same (cause_within n s) (cause_within m s) x p vs
    (λ v. cause-enough n m s (put ((x, v) ∷ []) p) (omega (arith, height-put ((x, v) ∷ []) p)) (omega (arith, height-put ((x, v) ∷ []) p))))
cause-enough (suc n) (suc m) s (SlidingChoice p q) h k = ap₂ option_or (cause-enough n m s p (omega arith) (omega arith)) (cause-enough n m s q (omega arith) (omega arith))

module _ (s : Script) where
  deeper : (n : ℕ) (p : Process) → height p ≤ n → cause_within n s p ≡ cause_in s p
  deeper n p h = cause-enough n (height p) s p h (omega arith)

  instances_deeper : (x : ℕ) (p : Process) (v : Value) → cause_within (height p) s (put ((x, v) ∷ []) p) ≡ cause_in s (put ((x, v) ∷ []) p)
  instances_deeper x p v = deeper (height p) (put ((x, v) ∷ []) p) (omega (arith, height-put ((x, v) ∷ []) p))

  pub external_cause : (p q : Process) → cause_in s (ExternalChoice p q) ≡ option_or (cause_in s p) (cause_in s q)
  external_cause p q = ap₂ option_or (deeper (max (height p) (height q)) p (omega arith)) (deeper (max (height p) (height q)) q (omega arith))

  pub interleaving_cause : (p q : Process) → cause_in s (Interleaving p q) ≡ option_or (cause_in s p) (cause_in s q)
  interleaving_cause p q = ap₂ option_or (deeper (max (height p) (height q)) p (omega arith)) (deeper (max (height p) (height q)) q (omega arith))

  pub interrupt_cause : (p q : Process) → cause_in s (Interrupt p q) ≡ option_or (cause_in s p) (cause_in s q)
  interrupt_cause p q = ap₂ option_or (deeper (max (height p) (height q)) p (omega arith)) (deeper (max (height p) (height q)) q (omega arith))

  pub sliding_cause : (p q : Process) → cause_in s (SlidingChoice p q) ≡ option_or (cause_in s p) (cause_in s q)
  sliding_cause p q = ap₂ option_or (deeper (max (height p) (height q)) p (omega arith)) (deeper (max (height p) (height q)) q (omega arith))

  pub sequential_cause : (p q : Process) → cause_in s (Sequential p q) ≡ cause_in s p
  sequential_cause p q = deeper (max (height p) (height q)) p (omega arith)

  pub generalised_cause : (p : Process) (a : EventSet) (q : Process) → cause_in s (GeneralisedParallel p a q) ≡ option_or (result_err (event_test s a)) (option_or (cause_in s p) (cause_in s q))
  generalised_cause p a q = ap₂ (λ c d. option_or (result_err (event_test s a)) (option_or c d)) (deeper (max (height p) (height q)) p (omega arith))
      (deeper (max (height p) (height q)) q (omega arith))

  pub alphabetised_cause : (p : Process) (a b : EventSet) (q : Process) →
      cause_in s (AlphabetisedParallel p a b q) ≡ option_or (result_err (event_test s a)) (option_or (result_err (event_test s b)) (option_or (cause_in s p) (cause_in s q)))
  alphabetised_cause p a b q = ap₂ (λ c d. option_or (result_err (event_test s a)) (option_or (result_err (event_test s b)) (option_or c d)))
      (deeper (max (height p) (height q)) p (omega arith)) (deeper (max (height p) (height q)) q (omega arith))

  pub if_cause : (e : Expression) (p q : Process) → cause_in s (If e p q) ≡ in_branch (condition s.types e) (cause_in s p) (cause_in s q)
  if_cause e p q = ap₂ (in_branch (condition s.types e)) (deeper (max (height p) (height q)) p (omega arith)) (deeper (max (height p) (height q)) q (omega arith))

  pub replicated_external_cause : (x : ℕ) (e : Expression) (p : Process) →
      cause_in s (ReplicatedExternalChoice x e p) ≡ in_instances (elements s.types e) (λ vs. first_cause (cause_in s) (instances x p vs))
  replicated_external_cause x e p = in_instances-same (elements s.types e) _ _ (λ vs. first_cause-same (cause_within (height p) s) (cause_in s) x p vs (instances_deeper x p))

  pub replicated_interleaving_cause : (x : ℕ) (e : Expression) (p : Process) →
      cause_in s (ReplicatedInterleaving x e p) ≡ in_instances (elements s.types e) (λ vs. first_cause (cause_in s) (instances x p vs))
  replicated_interleaving_cause x e p = in_instances-same (elements s.types e) _ _ (λ vs. first_cause-same (cause_within (height p) s) (cause_in s) x p vs (instances_deeper x p))

  pub replicated_internal_cause : (x : ℕ) (e : Expression) (p : Process) →
      cause_in s (ReplicatedInternalChoice x e p) ≡ in_instances (elements s.types e) (λ vs. in_internal_chain (cause_in s) (instances x p vs))
  replicated_internal_cause x e p = in_instances-same (elements s.types e) _ _ (λ vs. internal-same (cause_within (height p) s) (cause_in s) x p vs (instances_deeper x p))
