-- What the rules say of a term from what they say of its parts.
use Rattle.std.proofs.Common.{◌≡◌, true, false, [], ◌∷◌, Some, None, Result, Ok, Err, refl, sym, ◌∙◌, ap, subst, inl, inr, ◌⊎◌}
use Rattle.std.specs.declared.vec.Vec.{Vec}
use Rattle.theory_syntax.specs.Value.{Action, Tick}
use Rattle.theory_syntax.specs.Expression.{Expression}
use Rattle.theory_syntax.specs.Process.{Process, Stop, Skip, Omega, Guard, If, Script}
use Rattle.theory_semantics.specs.Meaning.Events.{condition}
use Rattle.theory_semantics.specs.Meaning.Faults.{cause_in, in_branch}
use Rattle.theory_semantics.specs.Meaning.Transitions as rule
use Rattle.theory_semantics.proofs.Causes.{if_cause}
use Rattle.csp_steps.specs.declared.rule_step.RuleStep.{RuleStep}
use Rattle.csp_expression.specs.declared.no_value.NoValue.{NoValue}
use Rattle.csp_expression.specs.declared.no_value.NoValue.TheVariants as eval
use Rattle.csp_steps.specs.Answering.{Answers, IsAnswered}
use Rattle.csp_settling.specs.Arguments.{Decides}
use Rattle.csp_steps.proofs.Answered.{answered_by}

module _ (s : Script) (p q : Process) (same : (x : Action) (u : Process) → (rule.RuleStep s q x u → rule.RuleStep s p x u) × (rule.RuleStep s p x u → rule.RuleStep s q x u)) (cause : cause_in s q ≡ cause_in s p) where
  -- a term with the causes and the steps of another one is answered as that
  pub answered : {A : Type 0} (r : Result (Vec (RuleStep A) A) NoValue) → Answers s p r → Answers s q r
  answered (Ok steps) h = record {
    no_cause = cause ∙ h.no_cause;
    sound = λ x t among. let r = h.sound x t among in (r.0, (same x r.0).1 r.1, r.2);
    complete = λ x u step. h.complete x u ((same x u).0 step);
  }
  answered (Err (eval.Cause c)) h = cause ∙ h
  answered (Err eval.Memory) h = tt

-- ---- guards

guard_in : (s : Script) (e : Expression) (p : Process) (x : Action) (u : Process) → rule.RuleStep s (Guard e p) x u → (condition s.types e ≡ Ok true) × rule.RuleStep s p x u
guard_in s e p x u (rule.guard holds step) = (holds, step)

pub guarded : {A : Type 0} (s : Script) (e : Expression) (p : Process) (r : Result (Vec (RuleStep A) A) NoValue) → condition s.types e ≡ Ok true → Answers s p r → Answers s (Guard e p) r
guarded s e p r holds h = answered s p (Guard e p) (λ x u. (λ step. (guard_in s e p x u step).1, λ step. rule.guard holds step)) (ap (λ b. in_branch b (cause_in s p) None) holds) r h

pub closed : (s : Script) (e : Expression) (p : Process) → condition s.types e ≡ Ok false → IsAnswered s (Guard e p) []
closed s e p fails = answered_by s (Guard e p) [] (ap (λ b. in_branch b (cause_in s p) None) fails) (λ x u. (λ step. let f = (guard_in s e p x u step).0 in cc (f, fails), λ k. absurd k))

-- ---- branches

if_in : (s : Script) (e : Expression) (p q : Process) (x : Action) (u : Process) → rule.RuleStep s (If e p q) x u → ((condition s.types e ≡ Ok true) × rule.RuleStep s p x u) ⊎ ((condition s.types e ≡ Ok false) × rule.RuleStep s q x u)
if_in s e p q x u (rule.if_true holds step) = inl (holds, step)
if_in s e p q x u (rule.if_false fails step) = inr (fails, step)

from_first : (s : Script) (e : Expression) (p q : Process) (x : Action) (u : Process) → condition s.types e ≡ Ok true → ((condition s.types e ≡ Ok true) × rule.RuleStep s p x u) ⊎ ((condition s.types e ≡ Ok false) × rule.RuleStep s q x u) → rule.RuleStep s p x u
from_first s e p q x u holds (inl k) = k.1
from_first s e p q x u holds (inr k) = let f = k.0 in absurd (cc (f, holds))

from_second : (s : Script) (e : Expression) (p q : Process) (x : Action) (u : Process) → condition s.types e ≡ Ok false → ((condition s.types e ≡ Ok true) × rule.RuleStep s p x u) ⊎ ((condition s.types e ≡ Ok false) × rule.RuleStep s q x u) → rule.RuleStep s q x u
from_second s e p q x u fails (inl k) = let f = k.0 in absurd (cc (f, fails))
from_second s e p q x u fails (inr k) = k.1

pub first_branch : {A : Type 0} (s : Script) (e : Expression) (p q : Process) (r : Result (Vec (RuleStep A) A) NoValue) → condition s.types e ≡ Ok true → Answers s p r → Answers s (If e p q) r
first_branch s e p q r holds h =
    answered s p (If e p q) (λ x u. (λ step. from_first s e p q x u holds (if_in s e p q x u step), λ step. rule.if_true holds step))
    (if_cause s e p q ∙ ap (λ b. in_branch b (cause_in s p) (cause_in s q)) holds) r h

pub second_branch : {A : Type 0} (s : Script) (e : Expression) (p q : Process) (r : Result (Vec (RuleStep A) A) NoValue) → condition s.types e ≡ Ok false → Answers s q r → Answers s (If e p q) r
second_branch s e p q r fails h =
    answered s q (If e p q) (λ x u. (λ step. from_second s e p q x u fails (if_in s e p q x u step), λ step. rule.if_false fails step))
    (if_cause s e p q ∙ ap (λ b. in_branch b (cause_in s p) (cause_in s q)) fails) r h

-- ---- conditions without a value

pub guard_stuck : (A : Type 0) (s : Script) (e : Expression) (p : Process) (why : NoValue) → Decides (Err why) (condition s.types e) → Answers {A = A} s (Guard e p) (Err why)
guard_stuck A s e p (eval.Cause c) h = ap (λ b. in_branch b (cause_in s p) None) h
guard_stuck A s e p eval.Memory h = tt

pub if_stuck : (A : Type 0) (s : Script) (e : Expression) (p q : Process) (why : NoValue) → Decides (Err why) (condition s.types e) → Answers {A = A} s (If e p q) (Err why)
if_stuck A s e p q (eval.Cause c) h = if_cause s e p q ∙ ap (λ b. in_branch b (cause_in s p) (cause_in s q)) h
if_stuck A s e p q eval.Memory h = tt

-- ---- ends

stop_in : (s : Script) (x : Action) (u : Process) → rule.RuleStep s Stop x u → ⊥
stop_in s x u h = elim h [ ]

omega_in : (s : Script) (x : Action) (u : Process) → rule.RuleStep s Omega x u → ⊥
omega_in s x u h = elim h [ ]

skip_in : (s : Script) (x : Action) (u : Process) → rule.RuleStep s Skip x u → (x ≡ Tick) × (u ≡ Omega)
skip_in s x u rule.skip = (refl, refl)

pub stopped : (s : Script) → IsAnswered s Stop []
stopped s = answered_by s Stop [] refl (λ x u. (λ step. stop_in s x u step, λ k. absurd k))

pub ended : (s : Script) → IsAnswered s Omega []
ended s = answered_by s Omega [] refl (λ x u. (λ step. omega_in s x u step, λ k. absurd k))

skips : (s : Script) (x : Action) (u : Process) → (x ≡ Tick) × (u ≡ Omega) → rule.RuleStep s Skip x u
skips s x u e = let P : Action → Type 0 = λ y. rule.RuleStep s Skip y u in let Q : Process → Type 0 = λ v. rule.RuleStep s Skip Tick v in subst P (sym e.0) (subst Q (sym e.1) rule.skip)

one_skip : (s : Script) (x : Action) (u : Process) → ((x ≡ Tick) × (u ≡ Omega)) ⊎ ⊥ → rule.RuleStep s Skip x u
one_skip s x u (inl e) = skips s x u e
one_skip s x u (inr e) = absurd e

pub skipped : (s : Script) → IsAnswered s Skip ((Tick, Some Omega) ∷ [])
skipped s = answered_by s Skip ((Tick, Omega) ∷ []) refl (λ x u. (λ step. inl (skip_in s x u step), one_skip s x u))
