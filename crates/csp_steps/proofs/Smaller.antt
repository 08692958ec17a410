-- The parts that a rule looks at stand less high than the whole.
use Rattle.std.proofs.Common.{◌≡◌, ℕ, suc, max, refl, sym, ◌∙◌, ap}
use Rattle.std.specs.declared.vec.Vec.{Vec}
use Rattle.theory_semantics.specs.Meaning.Faults.{height}
use Rattle.theory_syntax.specs.Expression.{Expression}
use Rattle.theory_syntax.specs.Process.{Process}
use Rattle.theory_syntax.specs.declared.process_operator.ProcessOperator.{ProcessOperator}
use Rattle.theory_syntax.specs.declared.process_operator.ProcessOperator.TheVariants as binary
use Rattle.theory_syntax.specs.declared.process_operator.ReplicatedOperator.{ReplicatedOperator}
use Rattle.theory_syntax.specs.declared.process_operator.ReplicatedOperator.TheVariants as replicated
use Rattle.theory_syntax.specs.Operators.{binary_process, replicated_process}
use Rattle.csp_events.specs.declared.event_set.EventSet.{EventSet}
use Rattle.csp_events.specs.declared.renaming_pair.RenamingPair.{RenamingPair}
use Rattle.csp_expression.specs.declared.expr.Expr.{Expr}
use Rattle.csp_expression.specs.declared.name.Name.{Name}
use Rattle.csp_term.specs.declared.term.Term.{Term}
use Rattle.csp_term.specs.declared.term.TermForm.{TermForm}
use Rattle.csp_term.specs.declared.term.TermForm.TheVariants as views
use Rattle.csp_term.specs.Term.{process_of, process_of_form}
use Rattle.csp_term.proofs.Forms.{of_alphabetised, of_binary, of_conditional, of_generalised, of_guard, of_hiding, of_renaming, of_replicated, of_sliding}

-- how high the process of a term is
abbrev pub height_of : {A : Type 0} → Term A → ℕ
height_of t = height (process_of t)

under_binary : (op : ProcessOperator) (p q : Process) → height (binary_process op p q) ≡ suc (max (height p) (height q))
under_binary binary.ExternalChoice p q = refl
under_binary binary.InternalChoice p q = refl
under_binary binary.Sequential p q = refl
under_binary binary.Interleaving p q = refl
under_binary binary.Interrupt p q = refl

under_replicated : (op : ReplicatedOperator) (n : ℕ) (e : Expression) (p : Process) → height (replicated_process op n e p) ≡ suc (height p)
under_replicated replicated.ExternalChoice n e p = refl
under_replicated replicated.InternalChoice n e p = refl
under_replicated replicated.Interleaving n e p = refl

module _ (A : Type 0) (t : Term A) (f : TermForm A) (same : process_of_form f ≡ process_of t) where
  pub guard_height : (e : Expr A) (p : Term A) → f ≡ views.Guard e p → height_of t ≡ suc (height_of p)
  guard_height e p is = ap height (sym same ∙ ap process_of_form is ∙ of_guard A e p)

  pub branch_height : (e : Expr A) (p q : Term A) → f ≡ views.If e p q → height_of t ≡ suc (max (height_of p) (height_of q))
  branch_height e p q is = ap height (sym same ∙ ap process_of_form is ∙ of_conditional A e p q)

  pub binary_height : (op : ProcessOperator) (p q : Term A) → f ≡ views.Binary op p q → height_of t ≡ suc (max (height_of p) (height_of q))
  binary_height op p q is = ap height (sym same ∙ ap process_of_form is ∙ of_binary A op p q) ∙ under_binary op (process_of p) (process_of q)

  pub generalised_height : (p : Term A) (a : EventSet A) (q : Term A) → f ≡ views.GeneralisedParallel p a q → height_of t ≡ suc (max (height_of p) (height_of q))
  generalised_height p a q is = ap height (sym same ∙ ap process_of_form is ∙ of_generalised A p a q)

  pub alphabetised_height : (p : Term A) (a b : EventSet A) (q : Term A) → f ≡ views.AlphabetisedParallel p a b q → height_of t ≡ suc (max (height_of p) (height_of q))
  alphabetised_height p a b q is = ap height (sym same ∙ ap process_of_form is ∙ of_alphabetised A p a b q)

  pub hiding_height : (p : Term A) (a : EventSet A) → f ≡ views.Hiding p a → height_of t ≡ suc (height_of p)
  hiding_height p a is = ap height (sym same ∙ ap process_of_form is ∙ of_hiding A p a)

  pub renaming_height : (p : Term A) (rs : Vec (RenamingPair A) A) → f ≡ views.Renaming p rs → height_of t ≡ suc (height_of p)
  renaming_height p rs is = ap height (sym same ∙ ap process_of_form is ∙ of_renaming A p rs)

  pub replicated_height : (op : ReplicatedOperator) (n : Name) (e : Expr A) (p : Term A) → f ≡ views.Replicated op n e p → height_of t ≡ suc (height_of p)
  replicated_height op n e p is = ap height (sym same ∙ ap process_of_form is ∙ of_replicated A op n e p) ∙ under_replicated op n.0 _ (process_of p)

  pub sliding_height : (p q : Term A) → f ≡ views.SlidingChoice p q → height_of t ≡ suc (max (height_of p) (height_of q))
  sliding_height p q is = ap height (sym same ∙ ap process_of_form is ∙ of_sliding A p q)
