-- Sides and what has no steps.
use Rattle.std.proofs.Common.{◌≡◌, None, Err, ◌∙◌, ap, ap₂}
use Rattle.std.specs.Option.{option_or}
use Rattle.theory_syntax.specs.Process.{Process, Script}
use Rattle.theory_semantics.specs.Meaning.Faults.{cause_in}
use Rattle.csp_expression.specs.declared.no_value.NoValue.{NoValue}
use Rattle.csp_expression.specs.declared.no_value.NoValue.TheVariants as eval
use Rattle.csp_steps.specs.Answering.{Answers}
use Rattle.csp_steps.specs.Composing.{AreSidesOf, IsSideOf}

module _ (A : Type 0) (s : Script) (p : Process) where
  -- a side that has no steps has the cause of its term
  pub stuck_of_side : (why : NoValue) → IsSideOf {A = A} s p (Err why) → Answers {A = A} s p (Err why)
  stuck_of_side (eval.Cause c) h = h
  stuck_of_side eval.Memory h = tt

  pub side_of_stuck : (why : NoValue) → Answers {A = A} s p (Err why) → IsSideOf {A = A} s p (Err why)
  side_of_stuck (eval.Cause c) h = h
  side_of_stuck eval.Memory h = tt

-- two sides
module _ (A : Type 0) (s : Script) (p q : Process) where
  pub stuck_at_first_side : (why : NoValue) → IsSideOf {A = A} s p (Err why) → AreSidesOf {A = A} s p q (Err why)
  stuck_at_first_side (eval.Cause c) h = ap (λ o. option_or o (cause_in s q)) h
  stuck_at_first_side eval.Memory h = tt

  pub stuck_at_second_side : cause_in s p ≡ None → (why : NoValue) → IsSideOf {A = A} s q (Err why) → AreSidesOf {A = A} s p q (Err why)
  stuck_at_second_side clear (eval.Cause c) h = ap₂ option_or clear h
  stuck_at_second_side clear eval.Memory h = tt

  -- a term whose causes are those of both
  pub stuck_by_sides : (whole : Process) → cause_in s whole ≡ option_or (cause_in s p) (cause_in s q) → (why : NoValue) → AreSidesOf {A = A} s p q (Err why) → Answers {A = A} s whole (Err why)
  stuck_by_sides whole is (eval.Cause c) h = is ∙ h
  stuck_by_sides whole is eval.Memory h = tt
