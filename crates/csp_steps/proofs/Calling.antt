-- What a call goes to.
use Rattle.std.proofs.Common.{◌≡◌, ℕ, [], ◌∷◌, ◌↔◌, Result, Ok, Err, ◌∙◌, ap, subst}
use Rattle.std.specs.Result.{result_err}
use Rattle.theory_syntax.specs.Value.{Action, Tau}
use Rattle.theory_syntax.specs.Expression.{Expressions}
use Rattle.theory_syntax.specs.Process.{Call, Process, Script}
use Rattle.theory_semantics.specs.Meaning.Evaluation.{Cause}
use Rattle.theory_semantics.specs.Meaning.Events.{called}
use Rattle.theory_semantics.specs.Meaning.Stepping.{call_steps, settled_steps}
use Rattle.theory_semantics.specs.Meaning.Transitions.{RuleStep}
use Rattle.theory_semantics.specs.Meaning.Unfolding.{settled}
use Rattle.theory_semantics.specs.Laws.Statements.{IsOneOf}
use Rattle.theory_semantics.proofs.Stepping.{exact}
use Rattle.csp_expression.specs.declared.no_value.NoValue.{NoValue}
use Rattle.csp_expression.specs.declared.no_value.NoValue.TheVariants as eval
use Rattle.csp_steps.specs.Answering.{Answers, IsAnswered, within_limits}
use Rattle.csp_settling.specs.Settling.{IsCalled}
use Rattle.csp_steps.proofs.Answered.{answered_by}

module _ (s : Script) (n : ℕ) (es : Expressions) where
  -- a call without a body
  pub call_stuck : (A : Type 0) (why : NoValue) → IsCalled {A = A} (Err why) (called s n es) → Answers {A = A} s (Call n es) (Err why)
  call_stuck A (eval.Cause c) none = ap result_err none
  call_stuck A eval.Memory none = tt

  module _ (t : Process) (goes : called s n es ≡ Ok t) where
    -- the one step of a call
    pub one_call : IsAnswered s (Call n es) ((Tau, within_limits (settled s t)) ∷ [])
    one_call =
        let Q : Action → Process → Result Process Cause → Type 0 = λ x u r. RuleStep s (Call n es) x u ↔ IsOneOf (settled_steps s (call_steps r)) x u in
        answered_by s (Call n es) ((Tau, settled s t) ∷ []) (ap result_err goes) (λ x u. subst (Q x u) goes (exact s (Call n es) x u))
