-- No form but that of the process that has ended stands for it.
use denote.RattleType
use denote.Enum.Declared
use Rattle.std.proofs.Common.{◌≡◌, ℕ, refl, sym, ◌∙◌, subst, inl, inr}
use Rattle.std.specs.declared.alloc.Allocator as allocator
use Rattle.theory_syntax.specs.Process.{Process, Omega}
use Rattle.theory_syntax.specs.Expression.{Expression}
use Rattle.theory_syntax.specs.declared.process_operator.ProcessOperator.{ProcessOperator}
use Rattle.theory_syntax.specs.declared.process_operator.ProcessOperator.TheVariants as binary
use Rattle.theory_syntax.specs.declared.process_operator.ReplicatedOperator.{ReplicatedOperator}
use Rattle.theory_syntax.specs.declared.process_operator.ReplicatedOperator.TheVariants as replicated
use Rattle.theory_syntax.specs.Operators.{binary_process, replicated_process}
use Rattle.csp_term.specs.contracts.term.TermForm as contract
use Rattle.csp_term.specs.declared.term.TermForm.{TermForm}
use Rattle.csp_term.specs.declared.term.TermForm.TheVariants as views
use Rattle.csp_expression.specs.Expression.{expression_of}
use Rattle.csp_term.specs.Term.{process_of, process_of_form}
use Rattle.csp_term.proofs.Forms.{of_alphabetised, of_binary, of_call, of_conditional, of_generalised, of_guard, of_hiding, of_prefix, of_renaming, of_replicated, of_skip, of_sliding, of_stop}

no_binary : (op : ProcessOperator) (p q : Process) → ¬ (binary_process op p q ≡ Omega)
no_binary binary.ExternalChoice p q is = cc is
no_binary binary.InternalChoice p q is = cc is
no_binary binary.Sequential p q is = cc is
no_binary binary.Interleaving p q is = cc is
no_binary binary.Interrupt p q is = cc is

no_replicated : (op : ReplicatedOperator) (n : ℕ) (e : Expression) (p : Process) → ¬ (replicated_process op n e p ≡ Omega)
no_replicated replicated.ExternalChoice n e p is = cc is
no_replicated replicated.InternalChoice n e p is = cc is
no_replicated replicated.Interleaving n e p is = cc is

module _ (R : RattleType.RattleType) (A : allocator.Ghosts R.Denot) where
  abbrev Parts : Type 0
  Parts = Declared.Choice (contract.the_parts R A)

  abbrev make : Parts → TermForm R.Denot
  make = contract.the_make R A

  abbrev GoesOn : TermForm R.Denot → Type 0
  GoesOn f = (f ≡ views.Omega → ⊥) → ¬ (process_of_form f ≡ Omega)

  by_parts : (v : Parts) → GoesOn (make v)
  by_parts v = elim v as (λ v. GoesOn (make v)) [
    | inl w ↦ λ other is. let no = sym (of_stop R.Denot) ∙ is in cc no
    | inr (inl w) ↦ λ other is. let no = sym (of_skip R.Denot) ∙ is in cc no
    | inr (inr (inl w)) ↦ λ other is. other refl
    | inr (inr (inr (inl w))) ↦ λ other is. let no = sym (of_call R.Denot w.0 w.1.0) ∙ is in cc no
    | inr (inr (inr (inr (inl w)))) ↦ λ other is. let no = sym (of_prefix R.Denot w.0 w.1.0 w.1.1.0) ∙ is in cc no
    | inr (inr (inr (inr (inr (inl w))))) ↦ λ other is. let no = sym (of_guard R.Denot w.0 w.1.0) ∙ is in cc no
    | inr (inr (inr (inr (inr (inr (inl w)))))) ↦ λ other is. let no = sym (of_conditional R.Denot w.0 w.1.0 w.1.1.0) ∙ is in cc no
    | inr (inr (inr (inr (inr (inr (inr (inl w))))))) ↦ λ other is. no_binary w.0 (process_of w.1.0) (process_of w.1.1.0) (sym (of_binary R.Denot w.0 w.1.0 w.1.1.0) ∙ is)
    | inr (inr (inr (inr (inr (inr (inr (inr (inl w)))))))) ↦ λ other is. let no = sym (of_generalised R.Denot w.0 w.1.0 w.1.1.0) ∙ is in cc no
    | inr (inr (inr (inr (inr (inr (inr (inr (inr (inl w))))))))) ↦ λ other is. let no = sym (of_alphabetised R.Denot w.0 w.1.0 w.1.1.0 w.1.1.1.0) ∙ is in cc no
    | inr (inr (inr (inr (inr (inr (inr (inr (inr (inr (inl w)))))))))) ↦ λ other is. let no = sym (of_hiding R.Denot w.0 w.1.0) ∙ is in cc no
    | inr (inr (inr (inr (inr (inr (inr (inr (inr (inr (inr (inl w))))))))))) ↦ λ other is. let no = sym (of_renaming R.Denot w.0 w.1.0) ∙ is in cc no
    | inr (inr (inr (inr (inr (inr (inr (inr (inr (inr (inr (inr (inl w)))))))))))) ↦ λ other is. no_replicated w.0 w.1.0.0 (expression_of w.1.1.0) (process_of w.1.1.1.0) (sym (of_replicated R.Denot w.0 w.1.0 w.1.1.0 w.1.1.1.0) ∙ is)
    | inr (inr (inr (inr (inr (inr (inr (inr (inr (inr (inr (inr (inr (inl w))))))))))))) ↦ λ other is. let no = sym (of_sliding R.Denot w.0 w.1.0) ∙ is in cc no
    | inr (inr (inr (inr (inr (inr (inr (inr (inr (inr (inr (inr (inr (inr w))))))))))))) ↦ absurd w
  ]

  -- a form other than that of the process that has ended
  pub goes_on : (f : TermForm R.Denot) → GoesOn f
  goes_on f = subst GoesOn (contract.the_eta R A f) (by_parts (contract.as_values R A f))
