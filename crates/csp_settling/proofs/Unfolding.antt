-- What a term is unfolded to, by its form.
use denote.Ref.{Bor}
use Rattle.std.proofs.Common.{◌≡◌, inl, inr, ℕ, zero, suc, ◌-◌, nat_le, ◌&&◌, Bool, true, false, cond, IsTrue, IsFalse, List, [], ◌∷◌, Option, Some, None, Result, Ok, Err, IfOk, refl, sym, ◌∙◌, ap, subst, arith}
use Rattle.theory_syntax.specs.Value.{Value}
use Rattle.theory_syntax.specs.Expression.{Expression, Expressions}
use Rattle.theory_syntax.specs.Process.{Process, Stop, Skip, Call, Guard, If, ExternalChoice, Interleaving, ReplicatedExternalChoice, ReplicatedInterleaving, Script}
use Rattle.theory_syntax.specs.declared.process_operator.ProcessOperator.{ProcessOperator}
use Rattle.theory_syntax.specs.declared.process_operator.ProcessOperator.TheVariants as binary
use Rattle.theory_syntax.specs.declared.process_operator.ReplicatedOperator.{ReplicatedOperator}
use Rattle.theory_syntax.specs.declared.process_operator.ReplicatedOperator.TheVariants as replicated
use Rattle.theory_syntax.specs.Operators.{binary_process, replicated_process}
use Rattle.theory_semantics.specs.Meaning.Evaluation.{Cause}
use Rattle.theory_semantics.specs.Meaning.Chains.{chain, left_grouped}
use Rattle.theory_semantics.specs.Meaning.Events.{called, condition, elements, instances}
use Rattle.theory_semantics.specs.Meaning.Limits.{size, depth, fits}
use Rattle.theory_semantics.specs.Meaning.Unfolding.{body_or, changed_or, chained, is_no_larger, picked, settled_within, stands_for, unfold_calls, unfolded_or, unless_called, where_true}
use Rattle.theory_semantics.proofs.Sizes.{fits_part, settled_grows}
use Rattle.csp_settling.specs.declared.unfolded.Unfolded.{Unfolded}
use Rattle.csp_settling.specs.declared.unfolded.Unfolded.TheVariants as unfolded
use Rattle.csp_term.specs.declared.script.ScriptParts.{ScriptParts}
use Rattle.csp_term.specs.declared.term.Term.{Term}
use Rattle.csp_term.specs.Script.{script_of_parts}
use Rattle.csp_term.specs.Term.{process_of}
use Rattle.csp_settling.specs.Settling.{IsChain, IsPast, IsSeenAs, TellsUnfolded, call_of}
use Rattle.csp_settling.proofs.Places.{changed_same}

-- what is told of a process is told of one that is the same
pub told_of : {A X : Type 0} (p q v w : Process) (r : Result (Unfolded A) X) → p ≡ q → v ≡ w → IfOk r (TellsUnfolded q w) → IfOk r (TellsUnfolded p v)
told_of {A} p q v w r same is h =
    let P : Process → Type 0 = λ t. IfOk r (TellsUnfolded t v) in
    let Q : Process → Type 0 = λ u. IfOk r (TellsUnfolded q u) in
    subst P (sym same) (subst Q (sym is) h)

-- a name more in a row
pub one_more : (n : ℕ) (s : Script) (c : Option Process) (p : Process) → (n ≡ 0 → ⊥) → settled_within n s c p ≡ unfold_calls s (settled_within (n - 1) s) c p
one_more zero s c p some = absurd (some refl)
one_more (suc n) s c p some = let e : suc n - 1 ≡ n = omega arith in rw e refl

module _ (s : Script) (more : ℕ) (c : Option Process) where
  abbrev pub go_on : Process → Process
  go_on = settled_within more s c

  abbrev pub unfolds : Process → Process
  unfolds p = unfold_calls s (settled_within more s) c p

  pub call_unfolds : (p : Process) (n : ℕ) (es : Expressions) → p ≡ Call n es →
      unfolds p ≡ unless_called c p (body_or (settled_within more s (Some p)) p (called s n es))
  call_unfolds p n es is =
      ap unfolds is ∙ ap (λ t. unless_called c t (body_or (settled_within more s (Some t)) t (called s n es))) (sym is)

  -- a term by what it stands for
  stands_so : (p q : Process) (o : Option Process) → p ≡ q → unfolds q ≡ unfolded_or go_on q (stands_for s q) → stands_for s q ≡ o → unfolds p ≡ unfolded_or go_on p o
  stands_so p q o is by stands = ap unfolds is ∙ by ∙ ap (λ r. unfolded_or go_on q r) stands ∙ ap (λ t. unfolded_or go_on t o) (sym is)

  pub guard_unfolds : (p : Process) (e : Expression) (q : Process) (r : Result Bool Cause) → p ≡ Guard e q → condition s.types e ≡ r → unfolds p ≡ unfolded_or go_on p (where_true r q)
  guard_unfolds p e q r is decides = stands_so p (Guard e q) (where_true r q) is refl (ap (λ b. where_true b q) decides)

  pub if_unfolds : (p : Process) (e : Expression) (q t : Process) (r : Result Bool Cause) → p ≡ If e q t → condition s.types e ≡ r → unfolds p ≡ unfolded_or go_on p (picked r q t)
  if_unfolds p e q t r is decides = stands_so p (If e q t) (picked r q t) is refl (ap (λ b. picked b q t) decides)

  pub external_unfolds : (p : Process) (n : ℕ) (e : Expression) (q : Process) → p ≡ ReplicatedExternalChoice n e q → unfolds p ≡ unfolded_or go_on p (chained ExternalChoice Stop n q (elements s.types e))
  external_unfolds p n e q is = stands_so p (ReplicatedExternalChoice n e q) (chained ExternalChoice Stop n q (elements s.types e)) is refl refl

  pub interleaving_unfolds : (p : Process) (n : ℕ) (e : Expression) (q : Process) → p ≡ ReplicatedInterleaving n e q → unfolds p ≡ unfolded_or go_on p (chained Interleaving Skip n q (elements s.types e))
  interleaving_unfolds p n e q is = stands_so p (ReplicatedInterleaving n e q) (chained Interleaving Skip n q (elements s.types e)) is refl refl

-- the body of a call, past the limits or within them
module _ (go : Process → Process) (p t : Process) where
  pub body_past : IsFalse (fits t) → body_or go p (Ok t) ≡ go t
  body_past past = ap (λ b. cond (cond b (nat_le (size p) (size t) && nat_le (depth p) (depth t)) true) (go t) p) past

-- a term past the limits is unfolded past them
pub stays_past : (n : ℕ) (s : Script) (c : Option Process) (p : Process) → IsFalse (fits p) → IsFalse (fits (settled_within n s c p))
stays_past n s c p past = by_fit (fits (settled_within n s c p)) refl
  where
    by_fit : (b : Bool) → fits (settled_within n s c p) ≡ b → b ≡ false
    by_fit true is = absurd (let g = settled_grows s n c p is in let e = sym past ∙ fits_part p (settled_within n s c p) g.sizes g.depths is in cc e)
    by_fit false is = refl

-- what does not change stands for itself
module _ (s : Script) (c : Option Process) where
  pub stop_stays : (n : ℕ) → settled_within n s c Stop ≡ Stop
  stop_stays zero = refl
  stop_stays (suc n) = refl

  pub skip_stays : (n : ℕ) → settled_within n s c Skip ≡ Skip
  skip_stays zero = refl
  skip_stays (suc n) = refl

module _ (go : Process → Process) (p : Process) where
  -- a process that goes on as itself
  pub unchanged : (q : Process) → go q ≡ q → unfolded_or go p (Some q) ≡ p
  unchanged q stays = ap (λ v. cond (fits q) v p) (changed_same p q (go q) stays) ∙ either (fits q)
    where
      either : (b : Bool) → cond b p p ≡ p
      either true = refl
      either false = refl

  -- one past the limits is not looked at
  pub not_seen : (q : Process) → IsFalse (fits q) → unfolded_or go p (Some q) ≡ p
  not_seen q past = ap (λ b. cond b (changed_or p q (go q)) p) past

  pub seen : (q : Process) → IsTrue (fits q) → unfolded_or go p (Some q) ≡ changed_or p q (go q)
  seen q fit = ap (λ b. cond b (changed_or p q (go q)) p) fit

  -- the chain of instances, of which there is one at least
  pub by_chain : (op : Process → Process → Process) (empty : Process) (n : ℕ) (q first : Process) (others : List Process) (r : Result (List Value) Cause) (vs : List Value) → r ≡ Ok vs → instances n q vs ≡ first ∷ others →
      unfolded_or go p (chained op empty n q r) ≡ unfolded_or go p (Some (left_grouped op first others))
  by_chain op empty n q first others r vs is are = ap (λ x. unfolded_or go p (chained op empty n q x)) is ∙ ap (λ qs. unfolded_or go p (Some (chain op empty qs))) are

  -- none
  pub by_none : (op : Process → Process → Process) (empty : Process) (n : ℕ) (q : Process) (r : Result (List Value) Cause) → go empty ≡ empty → r ≡ Ok [] → unfolded_or go p (chained op empty n q r) ≡ p
  by_none op empty n q r stays is = ap (λ x. unfolded_or go p (chained op empty n q x)) is ∙ unchanged empty stays

  pub by_fault : (op : Process → Process → Process) (empty : Process) (n : ℕ) (q : Process) (r : Result (List Value) Cause) (c : Cause) → r ≡ Err c → unfolded_or go p (chained op empty n q r) ≡ p
  by_fault op empty n q r c is = ap (λ x. unfolded_or go p (chained op empty n q x)) is

-- ---- forms

module _ (s : Script) (more : ℕ) (c : Option Process) where
  -- a term that is unfolded to itself, as one that is the same
  pub stays_so : (p q : Process) → p ≡ q → unfolds s more c q ≡ q → unfolds s more c p ≡ p
  stays_so p q is stays = ap (unfolds s more c) is ∙ stays ∙ sym is

  -- a call that stands in its own body is left
  pub left_call : (p v : Process) (b : Bool) → unless_called c p v ≡ cond b p v → b ≡ true → unless_called c p v ≡ p
  left_call p v b is true_is = is ∙ ap (λ b. cond b p v) true_is

  pub other_call : (p v : Process) (b : Bool) → unless_called c p v ≡ cond b p v → b ≡ false → unless_called c p v ≡ v
  other_call p v b is false_is = is ∙ ap (λ b. cond b p v) false_is

-- a smaller body is left
pub body_smaller : (go : Process → Process) (p t : Process) → is_no_larger p t ≡ false → body_or go p (Ok t) ≡ p
body_smaller go p t is = ap (λ b. cond b (go t) p) is

pub body_taken : (go : Process → Process) (p t : Process) → is_no_larger p t ≡ true → body_or go p (Ok t) ≡ go t
body_taken go p t is = ap (λ b. cond b (go t) p) is

-- a replicated form, by the chain of its instances
pub replicated_unfolds : (s : Script) (more : ℕ) (c : Option Process) (p : Process) (op : ReplicatedOperator) (n : ℕ) (e : Expression) (q : Process) → p ≡ replicated_process op n e q →
    unfolds s more c p ≡ unfolded_or (go_on s more c) p (stands_for s (replicated_process op n e q))
replicated_unfolds s more c p replicated.ExternalChoice n e q is = external_unfolds s more c p n e q is
replicated_unfolds s more c p replicated.Interleaving n e q is = interleaving_unfolds s more c p n e q is
replicated_unfolds s more c p replicated.InternalChoice n e q is = ap (unfolds s more c) is ∙ sym is

-- ---- as the code tells it

pub told_past : {A : Type 0} (p v : Process) (x : Unfolded A) → IsPast x → TellsUnfolded p v x → IsFalse (fits v)
told_past p v unfolded.Same h is = absurd h
told_past p v (unfolded.To t) h is = absurd h
told_past p v unfolded.Past h is = is

-- the chain of instances, if there is one, is what a replicated form is seen through by
pub chain_seen : {A : Type 0} (script : ScriptParts A) (more : ℕ) (within : Option (Bor (Term A))) (op : Process → Process → Process) (empty : Process) (n : ℕ) (p : Process) (r : Result (List Value) Cause) (o : Option (Term A)) →
    settled_within more (script_of_parts script) (call_of within) empty ≡ empty → IsChain op n p r o → IsSeenAs script more within (chained op empty n p r) o
chain_seen script more within op empty n p r (Some t) stays h = h empty
chain_seen script more within op empty n p r None stays h = λ q.
    elim (h empty) [
      | inl e ↦ ap (unfolded_or (settled_within more (script_of_parts script) (call_of within)) q) e
      | inr e ↦ ap (unfolded_or (settled_within more (script_of_parts script) (call_of within)) q) e ∙ unchanged (settled_within more (script_of_parts script) (call_of within)) q empty stays
    ]
