-- What is told of a replicated form's step by what is told of the chain of its instances.
use Rattle.std.proofs.Common.{◌≡◌, ℕ, List, [], ◌∷◌, sym, ◌∙◌, ap, subst, Option, Some, None, Ok, Err}
use Rattle.std.specs.Option.{option_map}
use Rattle.theory_syntax.specs.Value.{Value, Action}
use Rattle.theory_syntax.specs.Expression.{Expression}
use Rattle.theory_syntax.specs.Process.{Process, Stop, Skip, ExternalChoice, InternalChoice, Interleaving, ReplicatedExternalChoice, ReplicatedInternalChoice, ReplicatedInterleaving, Script}
use Rattle.theory_syntax.specs.Operators.{replicated_process}
use Rattle.theory_syntax.specs.declared.process_operator.ReplicatedOperator.{ReplicatedOperator}
use Rattle.theory_syntax.specs.declared.process_operator.ReplicatedOperator.TheVariants as operator
use Rattle.theory_semantics.specs.Meaning.Evaluation.{Cause}
use Rattle.theory_semantics.specs.Meaning.Events.{elements, instances}
use Rattle.theory_semantics.specs.Meaning.Faults.{cause_in, first_cause, in_instances, in_internal_chain}
use Rattle.theory_semantics.specs.Meaning.Transitions.{RuleStep, chain, replicated_external, replicated_internal, replicated_interleaving}
use Rattle.theory_semantics.specs.Meaning.Substitution.{put}
use Rattle.theory_semantics.proofs.Causes.{replicated_external_cause, replicated_interleaving_cause, replicated_internal_cause}
use Rattle.theory_semantics.proofs.Chains.{external_chain_cause, interleaving_chain_cause, internal_chain_cause}
use Rattle.theory_origins.specs.Origin.{InChain, Origin, Below, ComesFrom}
use Rattle.theory_origins.specs.Telling.{Tells, instance_chain}

module _ (s : Script) (n : ℕ) (e : Expression) (p : Process) (x : Action) (t : Process) where
  other_elements : (vs ws : List Value) → elements s.types e ≡ Ok vs → elements s.types e ≡ Ok ws → ws ≡ vs
  other_elements vs ws are is = let h = sym is ∙ are in cc h

  external_none : (vs : List Value) → elements s.types e ≡ Ok vs → Tells s (chain ExternalChoice Stop (instances n p vs)) x t None → Tells s (ReplicatedExternalChoice n e p) x t None
  external_none vs are h clear within (replicated_external ws is step) =
      h (external_chain_cause s (instances n p vs) ∙ (ap (λ r. in_instances r (λ us. first_cause (cause_in s) (instances n p us))) (sym are) ∙ (sym (replicated_external_cause s n e p) ∙ clear))) within
      (let P : List Value → Type 0 = λ us. RuleStep s (chain ExternalChoice Stop (instances n p us)) x t in subst P (other_elements vs ws are is) step)

  interleaving_none : (vs : List Value) → elements s.types e ≡ Ok vs → Tells s (chain Interleaving Skip (instances n p vs)) x t None → Tells s (ReplicatedInterleaving n e p) x t None
  interleaving_none vs are h clear within (replicated_interleaving ws is step) =
      h (interleaving_chain_cause s (instances n p vs) ∙ (ap (λ r. in_instances r (λ us. first_cause (cause_in s) (instances n p us))) (sym are) ∙ (sym (replicated_interleaving_cause s n e p) ∙ clear))) within
      (let P : List Value → Type 0 = λ us. RuleStep s (chain Interleaving Skip (instances n p us)) x t in subst P (other_elements vs ws are is) step)

  no_choice : elements s.types e ≡ Ok [] → ¬ RuleStep s (ReplicatedInternalChoice n e p) x t
  no_choice are (replicated_internal w ws is step) = let h = other_elements [] (w ∷ ws) are is in absurd (cc h)

  internal_none : (v : Value) (vs : List Value) → elements s.types e ≡ Ok (v ∷ vs) → Tells s (chain InternalChoice Stop (instances n p (v ∷ vs))) x t None → Tells s (ReplicatedInternalChoice n e p) x t None
  internal_none v vs are h clear within (replicated_internal w ws is step) =
      h (internal_chain_cause s (put ((n, v) ∷ []) p) (instances n p vs) ∙ (ap (λ r. in_instances r (λ us. in_internal_chain (cause_in s) (instances n p us))) (sym are) ∙ (sym (replicated_internal_cause s n e p) ∙ clear))) within
      (let P : List Value → Type 0 = λ us. RuleStep s (chain InternalChoice Stop (instances n p us)) x t in subst P (other_elements (v ∷ vs) (w ∷ ws) are is) step)

  stop_does : (o : Origin) → ¬ ComesFrom s Stop x t o
  stop_does o c = elim c.0 [ ]

  pub by_instances : (op : ReplicatedOperator) (vs : List Value) (l : Option Origin) → elements s.types e ≡ Ok vs → Tells s (instance_chain op (instances n p vs)) x t l →
      Tells s (replicated_process op n e p) x t (option_map (Below InChain) l)
  by_instances operator.ExternalChoice vs (Some o) are h = (replicated_external vs are h.0, ap (Below InChain) h.1)
  by_instances operator.ExternalChoice vs None are h = external_none vs are h
  by_instances operator.InternalChoice [] (Some o) are h = absurd (stop_does o h)
  by_instances operator.InternalChoice [] None are h = λ clear within. no_choice are
  by_instances operator.InternalChoice (v ∷ vs) (Some o) are h = (replicated_internal v vs are h.0, ap (Below InChain) h.1)
  by_instances operator.InternalChoice (v ∷ vs) None are h = internal_none v vs are h
  by_instances operator.Interleaving vs (Some o) are h = (replicated_interleaving vs are h.0, ap (Below InChain) h.1)
  by_instances operator.Interleaving vs None are h = interleaving_none vs are h

  pub no_instances : (op : ReplicatedOperator) (c : Cause) → elements s.types e ≡ Err c → ¬ RuleStep s (replicated_process op n e p) x t
  no_instances operator.ExternalChoice c none (replicated_external ws is step) = let h = sym none ∙ is in absurd (cc h)
  no_instances operator.InternalChoice c none (replicated_internal w ws is step) = let h = sym none ∙ is in absurd (cc h)
  no_instances operator.Interleaving c none (replicated_interleaving ws is step) = let h = sym none ∙ is in absurd (cc h)
