-- The weight of a term by those of its parts.
use Rattle.std.proofs.Common.{◌≡◌, ℕ, zero, suc, ◌≤◌, ◌<◌, ◌+◌, max, List, [], ◌∷◌, refl, ap, ap₂, arith, Result, Ok, Err}
use Rattle.theory_syntax.specs.Value.{Value}
use Rattle.theory_syntax.specs.Expression.{Expression}
use Rattle.theory_syntax.specs.Process.{EventSet, RenamingPair, Process, Stop, Skip, Omega, Call, Prefix, Guard, If, ExternalChoice, InternalChoice, Sequential, Interleaving, Interrupt, GeneralisedParallel, AlphabetisedParallel, Hiding, Renaming, ReplicatedExternalChoice, ReplicatedInternalChoice, ReplicatedInterleaving, SlidingChoice, Script}
use Rattle.theory_syntax.specs.Operators.{binary_process, replicated_process}
use Rattle.theory_syntax.specs.declared.process_operator.ProcessOperator.{ProcessOperator}
use Rattle.theory_syntax.specs.declared.process_operator.ProcessOperator.TheVariants as binary
use Rattle.theory_syntax.specs.declared.process_operator.ReplicatedOperator.{ReplicatedOperator}
use Rattle.theory_syntax.specs.declared.process_operator.ReplicatedOperator.TheVariants as operator
use Rattle.theory_semantics.specs.Meaning.Evaluation.{Cause}
use Rattle.theory_semantics.specs.Meaning.Events.{elements, instances}
use Rattle.theory_semantics.specs.Meaning.Faults.{height}
use Rattle.theory_semantics.specs.Meaning.Substitution.{put}
use Rattle.theory_semantics.specs.Meaning.Transitions.{chain, left_grouped}
use Rattle.theory_semantics.proofs.Causes.{height-pos, height-put}
use Rattle.theory_origins.specs.Telling.{instance_chain}
use Rattle.theory_origins.specs.Weight.{of_elements, weight, weight_within, weights}

weights-same : (f g : Process → ℕ) (x : ℕ) (p : Process) (vs : List Value) → ((v : Value) → f (put ((x, v) ∷ []) p) ≡ g (put ((x, v) ∷ []) p)) → weights f (instances x p vs) ≡ weights g (instances x p vs)
weights-same f g x p [] same = refl
weights-same f g x p (v ∷ vs) same = ap₂ (λ m n. suc m + n) (same v) (weights-same f g x p vs same)

of_elements-same : (r : Result (List Value) Cause) (f g : List Value → ℕ) → ((vs : List Value) → f vs ≡ g vs) → of_elements r f ≡ of_elements r g
of_elements-same (Ok vs) f g same = same vs
of_elements-same (Err c) f g same = refl

-- looking deeper than the height weighs the same
weight-enough : (n m : ℕ) (s : Script) (p : Process) → height p ≤ n → height p ≤ m → weight_within n s p ≡ weight_within m s p
weight-enough zero m s p h k = absurd (omega (arith, height-pos p))
weight-enough (suc n) zero s p h k = absurd (omega (arith, height-pos p))
weight-enough (suc n) (suc m) s Stop h k = refl
weight-enough (suc n) (suc m) s Skip h k = refl
weight-enough (suc n) (suc m) s Omega h k = refl
weight-enough (suc n) (suc m) s (Call c es) h k = refl
weight-enough (suc n) (suc m) s (Prefix c fs p) h k = refl
weight-enough (suc n) (suc m) s (Guard e p) h k = ap suc (weight-enough n m s p (omega arith) (omega arith))
weight-enough (suc n) (suc m) s (Hiding p a) h k = ap suc (weight-enough n m s p (omega arith) (omega arith))
weight-enough (suc n) (suc m) s (Renaming p rs) h k = ap suc (weight-enough n m s p (omega arith) (omega arith))
weight-enough (suc n) (suc m) s (If e p q) h k = ap₂ (λ i j. suc (i + j)) (weight-enough n m s p (omega arith) (omega arith)) (weight-enough n m s q (omega arith) (omega arith))
weight-enough (suc n) (suc m) s (ExternalChoice p q) h k = ap₂ (λ i j. suc (i + j)) (weight-enough n m s p (omega arith) (omega arith)) (weight-enough n m s q (omega arith) (omega arith))
weight-enough (suc n) (suc m) s (InternalChoice p q) h k = ap₂ (λ i j. suc (i + j)) (weight-enough n m s p (omega arith) (omega arith)) (weight-enough n m s q (omega arith) (omega arith))
weight-enough (suc n) (suc m) s (Sequential p q) h k = ap₂ (λ i j. suc (i + j)) (weight-enough n m s p (omega arith) (omega arith)) (weight-enough n m s q (omega arith) (omega arith))
weight-enough (suc n) (suc m) s (Interleaving p q) h k = ap₂ (λ i j. suc (i + j)) (weight-enough n m s p (omega arith) (omega arith)) (weight-enough n m s q (omega arith) (omega arith))
weight-enough (suc n) (suc m) s (Interrupt p q) h k = ap₂ (λ i j. suc (i + j)) (weight-enough n m s p (omega arith) (omega arith)) (weight-enough n m s q (omega arith) (omega arith))
weight-enough (suc n) (suc m) s (GeneralisedParallel p a q) h k = ap₂ (λ i j. suc (i + j)) (weight-enough n m s p (omega arith) (omega arith)) (weight-enough n m s q (omega arith) (omega arith))
weight-enough (suc n) (suc m) s (AlphabetisedParallel p a b q) h k = ap₂ (λ i j. suc (i + j)) (weight-enough n m s p (omega arith) (omega arith)) (weight-enough n m s q (omega arith) (omega arith))
weight-enough (suc n) (suc m) s (SlidingChoice p q) h k = ap₂ (λ i j. suc (i + j)) (weight-enough n m s p (omega arith) (omega arith)) (weight-enough n m s q (omega arith) (omega arith))
weight-enough (suc n) (suc m) s (ReplicatedExternalChoice x e p) h k =
    ap (λ i. suc (suc i)) (of_elements-same (elements s.types e) _ _ (λ vs. weights-same (weight_within n s) (weight_within m s) x p vs
    (λ v. weight-enough n m s (put ((x, v) ∷ []) p) (omega (arith, height-put ((x, v) ∷ []) p)) (omega (arith, height-put ((x, v) ∷ []) p)))))
weight-enough (suc n) (suc m) s (ReplicatedInternalChoice x e p) h k =
    ap (λ i. suc (suc i)) (of_elements-same (elements s.types e) _ _ (λ vs. weights-same (weight_within n s) (weight_within m s) x p vs
    (λ v. weight-enough n m s (put ((x, v) ∷ []) p) (omega (arith, height-put ((x, v) ∷ []) p)) (omega (arith, height-put ((x, v) ∷ []) p)))))
weight-enough (suc n) (suc m) s (ReplicatedInterleaving x e p) h k =
    ap (λ i. suc (suc i)) (of_elements-same (elements s.types e) _ _ (λ vs. weights-same (weight_within n s) (weight_within m s) x p vs
    (λ v. weight-enough n m s (put ((x, v) ∷ []) p) (omega (arith, height-put ((x, v) ∷ []) p)) (omega (arith, height-put ((x, v) ∷ []) p)))))

module _ (s : Script) where
  deeper : (n : ℕ) (p : Process) → height p ≤ n → weight_within n s p ≡ weight s p
  deeper n p h = weight-enough n (height p) s p h (omega arith)

  two : (p q : Process) → suc (weight_within (max (height p) (height q)) s p + weight_within (max (height p) (height q)) s q) ≡ suc (weight s p + weight s q)
  two p q = ap₂ (λ i j. suc (i + j)) (deeper (max (height p) (height q)) p (omega arith)) (deeper (max (height p) (height q)) q (omega arith))

  pub conditional_weight : (e : Expression) (p q : Process) → weight s (If e p q) ≡ suc (weight s p + weight s q)
  conditional_weight e p q = two p q

  pub binary_weight : (op : ProcessOperator) (p q : Process) → weight s (binary_process op p q) ≡ suc (weight s p + weight s q)
  binary_weight binary.ExternalChoice p q = two p q
  binary_weight binary.InternalChoice p q = two p q
  binary_weight binary.Sequential p q = two p q
  binary_weight binary.Interleaving p q = two p q
  binary_weight binary.Interrupt p q = two p q

  pub guard_weight : (e : Expression) (p : Process) → weight s (Guard e p) ≡ suc (weight s p)
  guard_weight e p = refl

  pub hiding_weight : (p : Process) (a : EventSet) → weight s (Hiding p a) ≡ suc (weight s p)
  hiding_weight p a = refl

  pub renaming_weight : (p : Process) (rs : List RenamingPair) → weight s (Renaming p rs) ≡ suc (weight s p)
  renaming_weight p rs = refl

  pub generalised_weight : (p : Process) (a : EventSet) (q : Process) → weight s (GeneralisedParallel p a q) ≡ suc (weight s p + weight s q)
  generalised_weight p a q = two p q

  pub alphabetised_weight : (p : Process) (a b : EventSet) (q : Process) → weight s (AlphabetisedParallel p a b q) ≡ suc (weight s p + weight s q)
  alphabetised_weight p a b q = two p q

  pub sliding_weight : (p q : Process) → weight s (SlidingChoice p q) ≡ suc (weight s p + weight s q)
  sliding_weight p q = two p q

  module _ (op : Process → Process → Process) (of_two : (p q : Process) → weight s (op p q) ≡ suc (weight s p + weight s q)) where
    grouped_weight : (p : Process) (ps : List Process) → weight s (left_grouped op p ps) ≡ weight s p + weights (weight s) ps
    grouped_weight p [] = omega arith
    grouped_weight p (q ∷ qs) = omega (arith, grouped_weight (op p q) qs, of_two p q)

    chain_weight : (empty : Process) → weight s empty ≡ 1 → (ps : List Process) → weight s (chain op empty ps) < suc (suc (weights (weight s) ps))
    chain_weight empty one [] = omega (arith, one)
    chain_weight empty one (p ∷ ps) = omega (arith, grouped_weight p ps)

  chain_less : (op : ReplicatedOperator) (ps : List Process) → weight s (instance_chain op ps) < suc (suc (weights (weight s) ps))
  chain_less operator.ExternalChoice ps = chain_weight ExternalChoice two Stop refl ps
  chain_less operator.InternalChoice ps = chain_weight InternalChoice two Stop refl ps
  chain_less operator.Interleaving ps = chain_weight Interleaving two Skip refl ps

  instances_weight : (x : ℕ) (p : Process) (vs : List Value) → weights (weight_within (height p) s) (instances x p vs) ≡ weights (weight s) (instances x p vs)
  instances_weight x p vs = weights-same (weight_within (height p) s) (weight s) x p vs (λ v. deeper (height p) (put ((x, v) ∷ []) p) (omega (arith, height-put ((x, v) ∷ []) p)))

  replicated_weight : (op : ReplicatedOperator) (x : ℕ) (e : Expression) (p : Process) → weight s (replicated_process op x e p) ≡ suc (suc (of_elements (elements s.types e) (λ vs. weights (weight_within (height p) s) (instances x p vs))))
  replicated_weight operator.ExternalChoice x e p = refl
  replicated_weight operator.InternalChoice x e p = refl
  replicated_weight operator.Interleaving x e p = refl

  -- the chain of the instances weighs less than the replicated form
  pub instances_less : (op : ReplicatedOperator) (x : ℕ) (e : Expression) (p : Process) (vs : List Value) → elements s.types e ≡ Ok vs → weight s (instance_chain op (instances x p vs)) < weight s (replicated_process op x e p)
  instances_less op x e p vs are =
      omega (arith, chain_less op (instances x p vs), replicated_weight op x e p, ap (λ r. of_elements r (λ us. weights (weight_within (height p) s) (instances x p us))) are, instances_weight x p vs)
