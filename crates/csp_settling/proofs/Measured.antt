-- The size and the depth of what is looked at in a term are less, and so is the number of names still to be unfolded in a row.
use Rattle.std.proofs.Common.{◌≡◌, ℕ, ◌<◌, ◌≤◌, ◌*◌, ◌+◌, max, nat_le, IsTrue, refl, sym, ◌∙◌, ap, subst, arith}
use Rattle.std.proofs.lemmas.Bool.{leb-true}
use Rattle.std.specs.declared.vec.Vec.{Vec}
use Rattle.theory_syntax.specs.Process.{Process, Stop, Skip, Omega, Call, Prefix, Guard, If, ExternalChoice, InternalChoice, Sequential, Interleaving, Interrupt, GeneralisedParallel, AlphabetisedParallel, Hiding, Renaming, ReplicatedExternalChoice, ReplicatedInternalChoice, ReplicatedInterleaving, SlidingChoice}
use Rattle.theory_syntax.specs.declared.process_operator.ProcessOperator.{ProcessOperator}
use Rattle.theory_syntax.proofs.Truths.{and_second}
use Rattle.theory_syntax.specs.Operators.{binary_process}
use Rattle.theory_semantics.specs.Meaning.Limits.{size, depth, max_size, max_depth, fits}
use Rattle.csp_events.specs.declared.event_set.EventSet.{EventSet}
use Rattle.csp_events.specs.declared.renaming_pair.RenamingPair.{RenamingPair}
use Rattle.csp_term.specs.declared.term.Term.{Term}
use Rattle.csp_term.specs.declared.term.TermForm.{TermForm}
use Rattle.csp_term.specs.declared.term.TermForm.TheVariants as views
use Rattle.csp_term.specs.Term.{process_of, process_of_form}
use Rattle.csp_term.proofs.Forms.{of_alphabetised, of_binary, of_generalised, of_hiding, of_renaming, of_sliding}
use Rattle.csp_term.proofs.OperatorForms.{binary_own_depth}

-- how deep the process of a term is
abbrev pub depth_in : {A : Type 0} → Term A → ℕ
depth_in t = depth (process_of t)

-- what a call counts of a row of n names at most, of which one is looked at, and of depth: more than any term within the limits does in a shorter row
abbrev pub counted : ℕ → ℕ → ℕ
counted n d = n * 2048 + 4 * d

pub fits_depth : (p : Process) → IsTrue (fits p) → depth p ≤ 256
fits_depth p fit = leb-true (depth p) max_depth (and_second (nat_le (size p) max_size) (nat_le (depth p) max_depth) fit)

module _ (A : Type 0) (t : Term A) (f : TermForm A) (same : process_of_form f ≡ process_of t) where
  is_of : (p : Process) → process_of_form f ≡ p → depth_in t ≡ depth p
  is_of p is = ap depth (sym same ∙ is)

  pub binary_depth : (op : ProcessOperator) (p q : Term A) → f ≡ views.Binary op p q → max (depth_in p) (depth_in q) < depth_in t
  binary_depth op p q is =
      let e = is_of (binary_process op (process_of p) (process_of q)) (ap process_of_form is ∙ of_binary A op p q) ∙ binary_own_depth op (process_of p) (process_of q) in
      omega (arith, e)

  pub generalised_depth : (p : Term A) (a : EventSet A) (q : Term A) → f ≡ views.GeneralisedParallel p a q → max (depth_in p) (depth_in q) < depth_in t
  generalised_depth p a q is = let e = ap depth (sym same ∙ ap process_of_form is ∙ of_generalised A p a q) in omega (arith, e)

  pub alphabetised_depth : (p : Term A) (a b : EventSet A) (q : Term A) → f ≡ views.AlphabetisedParallel p a b q → max (depth_in p) (depth_in q) < depth_in t
  alphabetised_depth p a b q is = let e = ap depth (sym same ∙ ap process_of_form is ∙ of_alphabetised A p a b q) in omega (arith, e)

  pub hiding_depth : (p : Term A) (a : EventSet A) → f ≡ views.Hiding p a → depth_in p < depth_in t
  hiding_depth p a is = let e = ap depth (sym same ∙ ap process_of_form is ∙ of_hiding A p a) in omega (arith, e)

  pub renaming_depth : (p : Term A) (rs : Vec (RenamingPair A) A) → f ≡ views.Renaming p rs → depth_in p < depth_in t
  renaming_depth p rs is = let e = ap depth (sym same ∙ ap process_of_form is ∙ of_renaming A p rs) in omega (arith, e)

  pub sliding_depth : (p q : Term A) → f ≡ views.SlidingChoice p q → max (depth_in p) (depth_in q) < depth_in t
  sliding_depth p q is = let e = ap depth (sym same ∙ ap process_of_form is ∙ of_sliding A p q) in omega (arith, e)

-- a term has a depth
pub has_depth : (p : Process) → 1 ≤ depth p
has_depth Stop = omega arith
has_depth Skip = omega arith
has_depth Omega = omega arith
has_depth (Call n es) = omega arith
has_depth (Prefix c fs p) = omega arith
has_depth (Guard e p) = omega arith
has_depth (If e p q) = omega arith
has_depth (ExternalChoice p q) = omega arith
has_depth (InternalChoice p q) = omega arith
has_depth (Sequential p q) = omega arith
has_depth (Interleaving p q) = omega arith
has_depth (Interrupt p q) = omega arith
has_depth (GeneralisedParallel p a q) = omega arith
has_depth (AlphabetisedParallel p a b q) = omega arith
has_depth (Hiding p a) = omega arith
has_depth (Renaming p rs) = omega arith
has_depth (ReplicatedExternalChoice n e p) = omega arith
has_depth (ReplicatedInternalChoice n e p) = omega arith
has_depth (ReplicatedInterleaving n e p) = omega arith
has_depth (SlidingChoice p q) = omega arith
