-- The process of each form.
use Rattle.std.proofs.Common.{◌≡◌, sym, ◌∙◌, ap}
use Rattle.std.specs.declared.boxed.Box.{Box}
use Rattle.std.specs.declared.vec.Vec.{Vec}
use Rattle.theory_syntax.specs.Expression.{to_expressions}
use Rattle.theory_syntax.specs.Process as pure
use Rattle.theory_syntax.specs.declared.process_operator.ProcessOperator.{ProcessOperator}
use Rattle.theory_syntax.specs.declared.process_operator.ReplicatedOperator.{ReplicatedOperator}
use Rattle.theory_syntax.specs.Operators.{binary_process, replicated_process}
use Rattle.csp_value.specs.declared.name.ChannelId.{ChannelId}
use Rattle.csp_term.specs.declared.name.EquationId.{EquationId}
use Rattle.csp_expression.specs.declared.name.Name.{Name}
use Rattle.csp_events.specs.declared.event_set.EventSet.{EventSet}
use Rattle.csp_events.specs.declared.renaming_pair.RenamingPair.{RenamingPair}
use Rattle.csp_expression.specs.declared.expr.Expr.{Expr}
use Rattle.csp_term.specs.declared.field.Field.{Field}
use Rattle.csp_term.specs.declared.term.Term.{Term, out-Term, roll-Term}
use Rattle.csp_term.specs.declared.term.TermForm.{TermForm}
use Rattle.csp_term.specs.declared.term.TermForm.TheFolds.{fold-roll-Term, fold-roll-TermForm, fold_out-Term}
use Rattle.csp_term.specs.declared.term.TermForm.TheVariants as views
use Rattle.csp_term.specs.declared.term.TermForm.TheOpen as layer
use Rattle.csp_expression.specs.Expression.{expression_of, expressions_of}
use Rattle.csp_events.specs.Events.{event_set_of, renaming_pairs_of}
use Rattle.csp_term.specs.Field.{fields_of}
use Rattle.csp_term.specs.Term.{process_of, process_of_form, term_step, form_step}

module _ (A : Type 0) where
  -- a term stands for what its form does
  pub of_form : (t : Term A) → process_of t ≡ process_of_form (out-Term A t).form.value
  of_form t = fold_out-Term A pure.Process pure.Process form_step term_step t

  -- a term that is made of a form
  pub of_made : (f : Box (TermForm A) A) → process_of (roll-Term A (record { form = f })) ≡ process_of_form f.value
  of_made f = fold-roll-Term A pure.Process pure.Process form_step term_step (record { form = f })

  pub of_stop : process_of_form {A = A} views.Stop ≡ pure.Stop
  of_stop = ap (process_of_form {A = A}) (sym views.rolls-Stop) ∙ fold-roll-TermForm A pure.Process pure.Process form_step term_step layer.Stop

  pub of_skip : process_of_form {A = A} views.Skip ≡ pure.Skip
  of_skip = ap (process_of_form {A = A}) (sym views.rolls-Skip) ∙ fold-roll-TermForm A pure.Process pure.Process form_step term_step layer.Skip

  pub of_omega_term : process_of_form {A = A} views.Omega ≡ pure.Omega
  of_omega_term = ap (process_of_form {A = A}) (sym views.rolls-Omega) ∙ fold-roll-TermForm A pure.Process pure.Process form_step term_step layer.Omega

  pub of_call : (n : EquationId) (es : Vec (Expr A) A) → process_of_form {A = A} (views.Call n es) ≡ pure.Call n.0 (to_expressions (expressions_of es.items))
  of_call n es = ap (process_of_form {A = A}) (sym (views.rolls-Call n es)) ∙ fold-roll-TermForm A pure.Process pure.Process form_step term_step (layer.Call n es)

  pub of_prefix : (c : ChannelId) (fs : Vec (Field A) A) (p : Term A) → process_of_form {A = A} (views.Prefix c fs p) ≡ pure.Prefix c.0 (fields_of fs.items) (process_of p)
  of_prefix c fs p = ap (process_of_form {A = A}) (sym (views.rolls-Prefix c fs p)) ∙ fold-roll-TermForm A pure.Process pure.Process form_step term_step (layer.Prefix c fs p)

  pub of_guard : (e : Expr A) (p : Term A) → process_of_form {A = A} (views.Guard e p) ≡ pure.Guard (expression_of e) (process_of p)
  of_guard e p = ap (process_of_form {A = A}) (sym (views.rolls-Guard e p)) ∙ fold-roll-TermForm A pure.Process pure.Process form_step term_step (layer.Guard e p)

  pub of_conditional : (e : Expr A) (p q : Term A) → process_of_form {A = A} (views.If e p q) ≡ pure.If (expression_of e) (process_of p) (process_of q)
  of_conditional e p q = ap (process_of_form {A = A}) (sym (views.rolls-If e p q)) ∙ fold-roll-TermForm A pure.Process pure.Process form_step term_step (layer.If e p q)

  pub of_binary : (op : ProcessOperator) (p q : Term A) → process_of_form {A = A} (views.Binary op p q) ≡ binary_process op (process_of p) (process_of q)
  of_binary op p q = ap (process_of_form {A = A}) (sym (views.rolls-Binary op p q)) ∙ fold-roll-TermForm A pure.Process pure.Process form_step term_step (layer.Binary op p q)

  pub of_generalised : (p : Term A) (a : EventSet A) (q : Term A) → process_of_form {A = A} (views.GeneralisedParallel p a q) ≡ pure.GeneralisedParallel (process_of p) (event_set_of a) (process_of q)
  of_generalised p a q = ap (process_of_form {A = A}) (sym (views.rolls-GeneralisedParallel p a q)) ∙ fold-roll-TermForm A pure.Process pure.Process form_step term_step (layer.GeneralisedParallel p a q)

  pub of_alphabetised : (p : Term A) (a b : EventSet A) (q : Term A) → process_of_form {A = A} (views.AlphabetisedParallel p a b q) ≡ pure.AlphabetisedParallel (process_of p) (event_set_of a) (event_set_of b) (process_of q)
  of_alphabetised p a b q = ap (process_of_form {A = A}) (sym (views.rolls-AlphabetisedParallel p a b q)) ∙ fold-roll-TermForm A pure.Process pure.Process form_step term_step (layer.AlphabetisedParallel p a b q)

  pub of_hiding : (p : Term A) (a : EventSet A) → process_of_form {A = A} (views.Hiding p a) ≡ pure.Hiding (process_of p) (event_set_of a)
  of_hiding p a = ap (process_of_form {A = A}) (sym (views.rolls-Hiding p a)) ∙ fold-roll-TermForm A pure.Process pure.Process form_step term_step (layer.Hiding p a)

  pub of_renaming : (p : Term A) (rs : Vec (RenamingPair A) A) → process_of_form {A = A} (views.Renaming p rs) ≡ pure.Renaming (process_of p) (renaming_pairs_of rs.items)
  of_renaming p rs = ap (process_of_form {A = A}) (sym (views.rolls-Renaming p rs)) ∙ fold-roll-TermForm A pure.Process pure.Process form_step term_step (layer.Renaming p rs)

  pub of_replicated : (op : ReplicatedOperator) (n : Name) (e : Expr A) (p : Term A) → process_of_form {A = A} (views.Replicated op n e p) ≡ replicated_process op n.0 (expression_of e) (process_of p)
  of_replicated op n e p = ap (process_of_form {A = A}) (sym (views.rolls-Replicated op n e p)) ∙ fold-roll-TermForm A pure.Process pure.Process form_step term_step (layer.Replicated op n e p)

  pub of_sliding : (p q : Term A) → process_of_form {A = A} (views.SlidingChoice p q) ≡ pure.SlidingChoice (process_of p) (process_of q)
  of_sliding p q = ap (process_of_form {A = A}) (sym (views.rolls-SlidingChoice p q)) ∙ fold-roll-TermForm A pure.Process pure.Process form_step term_step (layer.SlidingChoice p q)
