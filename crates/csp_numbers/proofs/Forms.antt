-- The forms that are parts.
use Rattle.std.proofs.Common.{◌≡◌, ℕ, ◌⊎◌, inl, inr, ap, ◌∙◌, refl}
use Rattle.std.specs.declared.vec.Vec.{Vec}
use Rattle.theory_syntax.specs.Process.{Process}
use Rattle.theory_syntax.specs.declared.process_operator.ProcessOperator.{ProcessOperator}
use Rattle.theory_syntax.specs.declared.process_operator.ProcessOperator.TheVariants as binary
use Rattle.theory_syntax.specs.declared.process_operator.ReplicatedOperator.{ReplicatedOperator}
use Rattle.theory_syntax.specs.declared.process_operator.ReplicatedOperator.TheVariants as replicated
use Rattle.theory_syntax.specs.Expression.{Expression}
use Rattle.theory_syntax.specs.Operators.{binary_process, replicated_process}
use Rattle.theory_shapes.specs.Parts.{IsPart, shape_of}
use Rattle.csp_value.specs.declared.name.ChannelId.{ChannelId}
use Rattle.csp_expression.specs.declared.expr.Expr.{Expr}
use Rattle.csp_expression.specs.declared.name.Name.{Name}
use Rattle.csp_term.specs.declared.field.Field.{Field}
use Rattle.csp_term.specs.declared.name.EquationId.{EquationId}
use Rattle.csp_term.specs.declared.term.Term.{Term}
use Rattle.csp_term.specs.declared.term.TermForm.{TermForm}
use Rattle.csp_term.specs.declared.term.TermForm.TheVariants as form
use Rattle.csp_term.specs.Term.{process_of, process_of_form}
use Rattle.csp_term.proofs.Forms.{of_call, of_conditional, of_guard, of_omega_term, of_prefix, of_replicated, of_skip, of_sliding, of_stop}

abbrev pub IsOther : ProcessOperator → Type 0
IsOther op = (op ≡ binary.ExternalChoice) ⊎ ((op ≡ binary.InternalChoice) ⊎ ((op ≡ binary.Sequential) ⊎ (op ≡ binary.Interrupt)))

pub other_is_part : (op : ProcessOperator) (p q : Process) → IsOther op → IsPart (binary_process op p q)
other_is_part op p q (inl e) = ap (λ o. shape_of (binary_process o p q)) e
other_is_part op p q (inr (inl e)) = ap (λ o. shape_of (binary_process o p q)) e
other_is_part op p q (inr (inr (inl e))) = ap (λ o. shape_of (binary_process o p q)) e
other_is_part op p q (inr (inr (inr e))) = ap (λ o. shape_of (binary_process o p q)) e

replicated_is_part : (op : ReplicatedOperator) (n : ℕ) (e : Expression) (p : Process) → IsPart (replicated_process op n e p)
replicated_is_part replicated.ExternalChoice n e p = refl
replicated_is_part replicated.InternalChoice n e p = refl
replicated_is_part replicated.Interleaving n e p = refl

-- a form of no operator that stays
abbrev pub IsPartForm : {A : Type 0} → TermForm A → Type 0
IsPartForm {A} f =
    (f ≡ form.Stop) ⊎ ((f ≡ form.Skip) ⊎ ((f ≡ form.Omega) ⊎
    (((n : EquationId) × (es : Vec (Expr A) A) × (f ≡ form.Call n es)) ⊎
    (((c : ChannelId) × (fs : Vec (Field A) A) × (p : Term A) × (f ≡ form.Prefix c fs p)) ⊎
    (((e : Expr A) × (p : Term A) × (f ≡ form.Guard e p)) ⊎
    (((e : Expr A) × (p : Term A) × (q : Term A) × (f ≡ form.If e p q)) ⊎
    (((op : ReplicatedOperator) × (n : Name) × (e : Expr A) × (p : Term A) × (f ≡ form.Replicated op n e p)) ⊎
    ((p : Term A) × (q : Term A) × (f ≡ form.SlidingChoice p q)))))))))

at_form : {A : Type 0} (f g : TermForm A) (p : Process) → f ≡ g → process_of_form g ≡ p → IsPart p → IsPart (process_of_form f)
at_form f g p is stands part = ap shape_of (ap process_of_form is ∙ stands) ∙ part

pub part_form : {A : Type 0} (f : TermForm A) → IsPartForm f → IsPart (process_of_form f)
part_form {A} f (inl is) = at_form f _ _ is (of_stop A) refl
part_form {A} f (inr (inl is)) = at_form f _ _ is (of_skip A) refl
part_form {A} f (inr (inr (inl is))) = at_form f _ _ is (of_omega_term A) refl
part_form {A} f (inr (inr (inr (inl (n, es, is))))) = at_form f _ _ is (of_call A n es) refl
part_form {A} f (inr (inr (inr (inr (inl (c, fs, p, is)))))) = at_form f _ _ is (of_prefix A c fs p) refl
part_form {A} f (inr (inr (inr (inr (inr (inl (e, p, is))))))) = at_form f _ _ is (of_guard A e p) refl
part_form {A} f (inr (inr (inr (inr (inr (inr (inl (e, p, q, is)))))))) = at_form f _ _ is (of_conditional A e p q) refl
part_form {A} f (inr (inr (inr (inr (inr (inr (inr (inl (op, n, e, p, is))))))))) = at_form f _ _ is (of_replicated A op n e p) (replicated_is_part op n.0 _ (process_of p))
part_form {A} f (inr (inr (inr (inr (inr (inr (inr (inr (p, q, is))))))))) = at_form f _ _ is (of_sliding A p q) refl
