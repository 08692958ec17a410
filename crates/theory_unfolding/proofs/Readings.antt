-- What the two readings of a script have in common: all but what steps lead to.
use Rattle.std.proofs.Common.{◌≡◌, ℕ, zero, suc, List, [], ◌∷◌, refl, ap, ap₂, Option, None, Result, Ok, Err}
use Rattle.std.specs.Option.{option_or}
use Rattle.std.specs.Result.{result_err}
use Rattle.theory_syntax.specs.Value.{Value, Event}
use Rattle.theory_syntax.specs.Process.{EventSet, Enumeration, Productions, EventUnion, EventIntersection, EventDifference, RenamingPair, Process, Stop, Skip, Omega, Call, Prefix, Guard, If, ExternalChoice, InternalChoice, Sequential, Interleaving, Interrupt, GeneralisedParallel, AlphabetisedParallel, Hiding, Renaming, ReplicatedExternalChoice, ReplicatedInternalChoice, ReplicatedInterleaving, SlidingChoice, Unfolding, Script}
use Rattle.theory_semantics.specs.Meaning.Evaluation.{Cause}
use Rattle.theory_semantics.specs.Meaning.Events.{condition, elements, event_test, passes, has_event, renaming, images_by, images, instances}
use Rattle.theory_semantics.specs.Meaning.Faults.{height, in_branch, first_cause, in_instances, in_internal_chain, cause_within, cause_in}
use Rattle.theory_syntax.specs.Readings.{reading}

module _ (s : Script) (u v : Unfolding) where
  pub same_test : (a : EventSet) → event_test (reading u s) a ≡ event_test (reading v s) a
  same_test (Enumeration es) = refl
  same_test (Productions es) = refl
  same_test (EventUnion a b) = rw (same_test a, same_test b) refl
  same_test (EventIntersection a b) = rw (same_test a, same_test b) refl
  same_test (EventDifference a b) = rw (same_test a, same_test b) refl

  pub same_has : (a : EventSet) (e : Event) → has_event (reading u s) a e ≡ has_event (reading v s) a e
  same_has a e = ap (λ r. passes r e) (same_test a)

  pub same_renaming : (rs : List RenamingPair) → renaming (reading u s) rs ≡ renaming (reading v s) rs
  same_renaming [] = refl
  same_renaming (r ∷ rs) = rw (same_renaming rs) refl

  pub same_images : (rs : List RenamingPair) (e : Event) → images (reading u s) rs e ≡ images (reading v s) rs e
  same_images rs e = ap (λ r. images_by r e) (same_renaming rs)

  same_first : (f g : Process → Option Cause) → ((p : Process) → f p ≡ g p) → (ps : List Process) → first_cause f ps ≡ first_cause g ps
  same_first f g same [] = refl
  same_first f g same (p ∷ ps) = ap₂ option_or (same p) (same_first f g same ps)

  same_internal : (f g : Process → Option Cause) → ((p : Process) → f p ≡ g p) → (ps : List Process) → in_internal_chain f ps ≡ in_internal_chain g ps
  same_internal f g same [] = refl
  same_internal f g same (p ∷ []) = same p
  same_internal f g same (p ∷ q ∷ ps) = refl

  same_instances : (r : Result (List Value) Cause) (f g : List Value → Option Cause) → ((vs : List Value) → f vs ≡ g vs) → in_instances r f ≡ in_instances r g
  same_instances (Ok vs) f g same = same vs
  same_instances (Err c) f g same = refl

  same_within : (n : ℕ) (p : Process) → cause_within n (reading u s) p ≡ cause_within n (reading v s) p
  same_within zero p = refl
  same_within (suc n) Stop = refl
  same_within (suc n) Skip = refl
  same_within (suc n) Omega = refl
  same_within (suc n) (Call k es) = refl
  same_within (suc n) (Prefix c fs p) = refl
  same_within (suc n) (Guard e p) = ap (λ c. in_branch (condition s.types e) c None) (same_within n p)
  same_within (suc n) (If e p q) = ap₂ (in_branch (condition s.types e)) (same_within n p) (same_within n q)
  same_within (suc n) (ExternalChoice p q) = ap₂ option_or (same_within n p) (same_within n q)
  same_within (suc n) (InternalChoice p q) = refl
  same_within (suc n) (Sequential p q) = same_within n p
  same_within (suc n) (Interleaving p q) = ap₂ option_or (same_within n p) (same_within n q)
  same_within (suc n) (Interrupt p q) = ap₂ option_or (same_within n p) (same_within n q)
  same_within (suc n) (GeneralisedParallel p a q) = ap₂ option_or (ap result_err (same_test a)) (ap₂ option_or (same_within n p) (same_within n q))
  same_within (suc n) (AlphabetisedParallel p a b q) =
      ap₂ option_or (ap result_err (same_test a)) (ap₂ option_or (ap result_err (same_test b)) (ap₂ option_or (same_within n p) (same_within n q)))
  same_within (suc n) (Hiding p a) = ap₂ option_or (ap result_err (same_test a)) (same_within n p)
  same_within (suc n) (Renaming p rs) = ap₂ option_or (ap result_err (same_renaming rs)) (same_within n p)
  same_within (suc n) (ReplicatedExternalChoice x e p) = same_instances (elements s.types e) _ _ (λ vs. same_first _ _ (same_within n) (instances x p vs))
  same_within (suc n) (ReplicatedInternalChoice x e p) = same_instances (elements s.types e) _ _ (λ vs. same_internal _ _ (same_within n) (instances x p vs))
  same_within (suc n) (ReplicatedInterleaving x e p) = same_instances (elements s.types e) _ _ (λ vs. same_first _ _ (same_within n) (instances x p vs))
  same_within (suc n) (SlidingChoice p q) = ap₂ option_or (same_within n p) (same_within n q)

  pub same_cause : (p : Process) → cause_in (reading u s) p ≡ cause_in (reading v s) p
  same_cause p = same_within (height p) p
