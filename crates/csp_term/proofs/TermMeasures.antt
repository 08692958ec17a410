-- The size and the depth of a form, of those of its parts.
use Rattle.std.proofs.Common.{◌≡◌, ℕ, ◌+◌, ◌≤◌, max, Bool, true, false, refl, IsTrue, ◌↔◌, ◌⊎◌, inl, inr, Option, Some, None, ◌-◌, subst, sym, ◌∙◌, ap, arith}
use Rattle.std.proofs.Math.Nat.{max-le, le-max_left, le-max_right}
use Rattle.theory_semantics.specs.Meaning.Limits.{depth, size}
use Rattle.csp_expression.specs.declared.expr.Expr.{Expr}
use Rattle.csp_expression.specs.declared.name.Name.{Name}
use Rattle.csp_value.specs.declared.name.ChannelId.{ChannelId}
use Rattle.csp_events.specs.declared.event_set.EventSet.{EventSet}
use Rattle.csp_events.specs.declared.renaming_pair.RenamingPair.{RenamingPair}
use Rattle.std.specs.declared.vec.Vec.{Vec}
use Rattle.std.specs.Option.{SomeIff}
use Rattle.theory_syntax.specs.Process.{Process, Stop, Skip, Omega, Call, Prefix, Guard, If, ExternalChoice, InternalChoice, Sequential, Interleaving, Interrupt, GeneralisedParallel, AlphabetisedParallel, Hiding, Renaming, ReplicatedExternalChoice, ReplicatedInternalChoice, ReplicatedInterleaving, SlidingChoice}
use Rattle.theory_syntax.specs.declared.process_operator.ProcessOperator.{ProcessOperator}
use Rattle.theory_syntax.specs.declared.process_operator.ReplicatedOperator.{ReplicatedOperator}
use Rattle.csp_term.specs.declared.field.Field.{Field}
use Rattle.csp_term.specs.declared.name.EquationId.{EquationId}
use Rattle.csp_term.specs.Own.{own_depth, own_size}
use Rattle.csp_term.specs.declared.term.Term.{Term}
use Rattle.csp_term.specs.declared.term.TermForm.{TermForm}
use Rattle.csp_term.specs.declared.term.TermForm.TheVariants as views
use Rattle.csp_term.specs.Term.{process_of, process_of_form}
use Rattle.csp_term.proofs.Forms.{of_alphabetised, of_binary, of_conditional, of_generalised, of_call, of_guard, of_hiding, of_omega_term, of_prefix, of_skip, of_stop, of_renaming, of_replicated, of_sliding}
use Rattle.csp_term.proofs.OperatorForms.{binary_head_depth, binary_head_size, binary_own_depth, binary_own_size, replicated_own_depth, replicated_own_size}

pub within_form : (r : Bool) (parts whole most : ℕ) → whole ≡ 1 + parts → IsTrue r ↔ (parts ≤ most) → IsTrue r ↔ (whole ≤ 1 + most)
within_form r parts whole most is told = (λ holds. let within : parts ≤ most = told.0 holds in omega arith, λ all. told.1 (omega arith))

pub within_both : (r : Bool) (first second most : ℕ) → first ≤ most → IsTrue r ↔ (second ≤ most) → IsTrue r ↔ (max first second ≤ most)
within_both r first second most within told = (
  λ holds. max-le within (told.0 holds),
  λ all. let bound : second ≤ max first second = le-max_right first second in told.1 (omega arith),
)

pub beyond_first : (r : Bool) (first second most : ℕ) → r ≡ false → IsTrue r ↔ (first ≤ most) → IsTrue r ↔ (max first second ≤ most)
beyond_first r first second most fails told = (
  λ holds. absurd (cc (sym fails ∙ holds)),
  λ all. let bound : first ≤ max first second = le-max_left first second in told.1 (omega arith),
)

pub same_within : (r : Bool) (part whole most : ℕ) → whole ≡ part → IsTrue r ↔ (part ≤ most) → IsTrue r ↔ (whole ≤ most)
same_within r part whole most is told = (λ holds. let within : part ≤ most = told.0 holds in omega arith, λ all. told.1 (omega arith))

pub head_beyond : (head whole most : ℕ) → 1 + head ≤ whole → ¬ (head ≤ most) → IsTrue false ↔ (whole ≤ 1 + most)
head_beyond head whole most under more = (λ no. absurd (cc no), λ all. absurd (more (omega arith)))

pub head_alone : (head whole most : ℕ) → whole ≡ 1 + head → head ≤ most → IsTrue true ↔ (whole ≤ 1 + most)
head_alone head whole most is within = (λ yes. omega arith, λ all. refl)

-- what a process has at its head is less deep
pub own_depth_below : (p : Process) → 1 + own_depth p ≤ depth p
own_depth_below Stop = omega arith
own_depth_below Skip = omega arith
own_depth_below Omega = omega arith
own_depth_below (Call n es) = omega arith
own_depth_below (Prefix c fs p) = omega arith
own_depth_below (Guard e p) = omega arith
own_depth_below (If e p q) = omega arith
own_depth_below (ExternalChoice p q) = omega arith
own_depth_below (InternalChoice p q) = omega arith
own_depth_below (Sequential p q) = omega arith
own_depth_below (Interleaving p q) = omega arith
own_depth_below (Interrupt p q) = omega arith
own_depth_below (GeneralisedParallel p a q) = omega arith
own_depth_below (AlphabetisedParallel p a b q) = omega arith
own_depth_below (Hiding p a) = omega arith
own_depth_below (Renaming p rs) = omega arith
own_depth_below (ReplicatedExternalChoice n e p) = omega arith
own_depth_below (ReplicatedInternalChoice n e p) = omega arith
own_depth_below (ReplicatedInterleaving n e p) = omega arith
own_depth_below (SlidingChoice p q) = omega arith

-- ---- the terms under a form

-- what is left by the head, and then by what is below it
pub head_left : (r : Option ℕ) (head below whole rest room : ℕ) → whole ≡ head + below → head ≤ room → rest ≡ room - head → SomeIff r (below ≤ rest) (rest - below) → SomeIff r (whole ≤ room) (room - whole)
head_left None head below whole rest room is some less h = λ all. h (omega arith)
head_left (Some x) head below whole rest room is some less h = let within : below ≤ rest = h.0 in let left : x ≡ rest - below = h.1 in (omega arith, omega arith)

pub first_past : (head first second whole rest room : ℕ) → whole ≡ head + (first + second) → head ≤ room → rest ≡ room - head → ¬ (first ≤ rest) → ¬ (whole ≤ room)
first_past head first second whole rest room is some less more all = more (omega arith)

pub second_left : (r : Option ℕ) (head first second whole rest behind room : ℕ) → whole ≡ head + (first + second) → head ≤ room → rest ≡ room - head → first ≤ rest → behind ≡ rest - first → SomeIff r (second ≤ behind) (behind - second) → SomeIff r (whole ≤ room) (room - whole)
second_left None head first second whole rest behind room is some less fits b h = λ all. h (omega arith)
second_left (Some x) head first second whole rest behind room is some less fits b h = let within : second ≤ behind = h.0 in let left : x ≡ behind - second = h.1 in (omega arith, omega arith)

-- a form over one term
abbrev pub IsOverOne : {A : Type 0} → TermForm A → Term A → Type 0
IsOverOne {A} f p =
    ((c : ChannelId) × (fs : Vec (Field A) A) × (f ≡ views.Prefix c fs p)) ⊎
    (((e : Expr A) × (f ≡ views.Guard e p)) ⊎
    (((a : EventSet A) × (f ≡ views.Hiding p a)) ⊎
    (((rs : Vec (RenamingPair A) A) × (f ≡ views.Renaming p rs)) ⊎
    ((op : ReplicatedOperator) × (n : Name) × (e : Expr A) × (f ≡ views.Replicated op n e p)))))

-- a form over two terms
abbrev pub IsOverTwo : {A : Type 0} → TermForm A → Term A → Term A → Type 0
IsOverTwo {A} f p q =
    ((e : Expr A) × (f ≡ views.If e p q)) ⊎
    (((op : ProcessOperator) × (f ≡ views.Binary op p q)) ⊎
    (((a : EventSet A) × (f ≡ views.GeneralisedParallel p a q)) ⊎
    (((a : EventSet A) × (b : EventSet A) × (f ≡ views.AlphabetisedParallel p a b q)) ⊎
    (f ≡ views.SlidingChoice p q))))

-- a form over none
abbrev pub IsOverNone : {A : Type 0} → TermForm A → Type 0
IsOverNone {A} f = (f ≡ views.Stop) ⊎ ((f ≡ views.Skip) ⊎ ((f ≡ views.Omega) ⊎ ((n : EquationId) × (es : Vec (Expr A) A) × (f ≡ views.Call n es))))

-- a form with nothing at its head but what it is
abbrev pub IsBare : {A : Type 0} → TermForm A → Type 0
IsBare {A} f =
    (f ≡ views.Stop) ⊎ ((f ≡ views.Skip) ⊎ ((f ≡ views.Omega) ⊎
    (((op : ProcessOperator) × (p : Term A) × (q : Term A) × (f ≡ views.Binary op p q)) ⊎
    ((p : Term A) × (q : Term A) × (f ≡ views.SlidingChoice p q)))))

pub bare_size : {A : Type 0} (f : TermForm A) → IsBare f → own_size (process_of_form f) ≡ 1
bare_size {A} f (inl is) = ap own_size (ap process_of_form is ∙ of_stop A)
bare_size {A} f (inr (inl is)) = ap own_size (ap process_of_form is ∙ of_skip A)
bare_size {A} f (inr (inr (inl is))) = ap own_size (ap process_of_form is ∙ of_omega_term A)
bare_size {A} f (inr (inr (inr (inl (op, p, q, is))))) = ap own_size (ap process_of_form is ∙ of_binary A op p q) ∙ binary_head_size op (process_of p) (process_of q)
bare_size {A} f (inr (inr (inr (inr (p, q, is))))) = ap own_size (ap process_of_form is ∙ of_sliding A p q)

pub bare_depth : {A : Type 0} (f : TermForm A) → IsBare f → own_depth (process_of_form f) ≡ 0
bare_depth {A} f (inl is) = ap own_depth (ap process_of_form is ∙ of_stop A)
bare_depth {A} f (inr (inl is)) = ap own_depth (ap process_of_form is ∙ of_skip A)
bare_depth {A} f (inr (inr (inl is))) = ap own_depth (ap process_of_form is ∙ of_omega_term A)
bare_depth {A} f (inr (inr (inr (inl (op, p, q, is))))) = ap own_depth (ap process_of_form is ∙ of_binary A op p q) ∙ binary_head_depth op (process_of p) (process_of q)
bare_depth {A} f (inr (inr (inr (inr (p, q, is))))) = ap own_depth (ap process_of_form is ∙ of_sliding A p q)

-- what such a head leaves
pub bare_left : (own rest room : ℕ) → own ≡ 1 → 1 ≤ room → rest ≡ room - 1 → SomeIff (Some rest) (own ≤ room) (room - own)
bare_left own rest room is some less = (omega arith, omega arith)

pub bare_within : (own most : ℕ) → own ≡ 0 → IsTrue true ↔ (own ≤ most)
bare_within own most is = (λ yes. omega arith, λ all. refl)

at_form : {A : Type 0} (f : TermForm A) (p : Process) (n : ℕ) → process_of_form f ≡ p → size p ≡ own_size p + n → size (process_of_form f) ≡ own_size (process_of_form f) + n
at_form f p n stands below = let P : Process → Type 0 = λ q. size q ≡ own_size q + n in subst P (sym stands) below

pub over_one_size : {A : Type 0} (f : TermForm A) (p : Term A) → IsOverOne f p → size (process_of_form f) ≡ own_size (process_of_form f) + size (process_of p)
over_one_size {A} f p (inl (c, fs, is)) = at_form f _ _ (ap process_of_form is ∙ of_prefix A c fs p) (omega arith)
over_one_size {A} f p (inr (inl (e, is))) = at_form f _ _ (ap process_of_form is ∙ of_guard A e p) (omega arith)
over_one_size {A} f p (inr (inr (inl (a, is)))) = at_form f _ _ (ap process_of_form is ∙ of_hiding A p a) (omega arith)
over_one_size {A} f p (inr (inr (inr (inl (rs, is))))) = at_form f _ _ (ap process_of_form is ∙ of_renaming A p rs) (omega arith)
over_one_size {A} f p (inr (inr (inr (inr (op, n, e, is))))) = at_form f _ _ (ap process_of_form is ∙ of_replicated A op n e p) (replicated_own_size op n.0 _ (process_of p))

pub over_two_size : {A : Type 0} (f : TermForm A) (p q : Term A) → IsOverTwo f p q → size (process_of_form f) ≡ own_size (process_of_form f) + (size (process_of p) + size (process_of q))
over_two_size {A} f p q (inl (e, is)) = at_form f _ _ (ap process_of_form is ∙ of_conditional A e p q) (omega arith)
over_two_size {A} f p q (inr (inl (op, is))) = at_form f _ _ (ap process_of_form is ∙ of_binary A op p q) (binary_own_size op (process_of p) (process_of q))
over_two_size {A} f p q (inr (inr (inl (a, is)))) = at_form f _ _ (ap process_of_form is ∙ of_generalised A p a q) (omega arith)
over_two_size {A} f p q (inr (inr (inr (inl (a, b, is))))) = at_form f _ _ (ap process_of_form is ∙ of_alphabetised A p a b q) (omega arith)
over_two_size {A} f p q (inr (inr (inr (inr is)))) = at_form f _ _ (ap process_of_form is ∙ of_sliding A p q) (omega arith)

deep_form : {A : Type 0} (f : TermForm A) (p : Process) (n : ℕ) → process_of_form f ≡ p → depth p ≡ 1 + max (own_depth p) n → depth (process_of_form f) ≡ 1 + max (own_depth (process_of_form f)) n
deep_form f p n stands below = let P : Process → Type 0 = λ q. depth q ≡ 1 + max (own_depth q) n in subst P (sym stands) below

bare_form : {A : Type 0} (f : TermForm A) (p : Process) → process_of_form f ≡ p → depth p ≡ 1 + own_depth p → depth (process_of_form f) ≡ 1 + own_depth (process_of_form f)
bare_form f p stands below = let P : Process → Type 0 = λ q. depth q ≡ 1 + own_depth q in subst P (sym stands) below

pub over_none_depth : {A : Type 0} (f : TermForm A) → IsOverNone f → depth (process_of_form f) ≡ 1 + own_depth (process_of_form f)
over_none_depth {A} f (inl is) = bare_form f _ (ap process_of_form is ∙ of_stop A) refl
over_none_depth {A} f (inr (inl is)) = bare_form f _ (ap process_of_form is ∙ of_skip A) refl
over_none_depth {A} f (inr (inr (inl is))) = bare_form f _ (ap process_of_form is ∙ of_omega_term A) refl
over_none_depth {A} f (inr (inr (inr (n, es, is)))) = bare_form f _ (ap process_of_form is ∙ of_call A n es) refl

pub over_one_depth : {A : Type 0} (f : TermForm A) (p : Term A) → IsOverOne f p → depth (process_of_form f) ≡ 1 + max (own_depth (process_of_form f)) (depth (process_of p))
over_one_depth {A} f p (inl (c, fs, is)) = deep_form f _ _ (ap process_of_form is ∙ of_prefix A c fs p) refl
over_one_depth {A} f p (inr (inl (e, is))) = deep_form f _ _ (ap process_of_form is ∙ of_guard A e p) refl
over_one_depth {A} f p (inr (inr (inl (a, is)))) = deep_form f _ _ (ap process_of_form is ∙ of_hiding A p a) (omega arith)
over_one_depth {A} f p (inr (inr (inr (inl (rs, is))))) = deep_form f _ _ (ap process_of_form is ∙ of_renaming A p rs) (omega arith)
over_one_depth {A} f p (inr (inr (inr (inr (op, n, e, is))))) = deep_form f _ _ (ap process_of_form is ∙ of_replicated A op n e p) (replicated_own_depth op n.0 _ (process_of p))

pub over_two_depth : {A : Type 0} (f : TermForm A) (p q : Term A) → IsOverTwo f p q → depth (process_of_form f) ≡ 1 + max (own_depth (process_of_form f)) (max (depth (process_of p)) (depth (process_of q)))
over_two_depth {A} f p q (inl (e, is)) = deep_form f _ _ (ap process_of_form is ∙ of_conditional A e p q) refl
over_two_depth {A} f p q (inr (inl (op, is))) = deep_form f _ _ (ap process_of_form is ∙ of_binary A op p q) (binary_own_depth op (process_of p) (process_of q))
over_two_depth {A} f p q (inr (inr (inl (a, is)))) = deep_form f _ _ (ap process_of_form is ∙ of_generalised A p a q) (omega arith)
over_two_depth {A} f p q (inr (inr (inr (inl (a, b, is))))) = deep_form f _ _ (ap process_of_form is ∙ of_alphabetised A p a b q) (omega arith)
over_two_depth {A} f p q (inr (inr (inr (inr is)))) = deep_form f _ _ (ap process_of_form is ∙ of_sliding A p q) (omega arith)
