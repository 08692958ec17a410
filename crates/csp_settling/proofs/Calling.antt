-- What a call stands for, by the values of its arguments, its equation and the bindings of its parameters.
use Rattle.std.proofs.Common.{◌≡◌, ℕ, List, [], Bool, true, false, cond, IsTrue, IsFalse, slice_get, Option, Some, None, Result, Ok, Err, ok_or, option_map, refl, sym, ◌∙◌, ap}
use Rattle.theory_syntax.specs.Value.{Value}
use Rattle.theory_syntax.specs.Expression.{Expressions, no_expressions}
use Rattle.theory_syntax.specs.Process.{Call, Equation, Process, Script}
use Rattle.theory_semantics.specs.Meaning.Evaluation.{Cause, IllKinded, ◌and_then◌, values}
use Rattle.theory_semantics.specs.Meaning.Events.{called, parameter_bindings}
use Rattle.theory_semantics.specs.Meaning.Limits.{fits}
use Rattle.theory_semantics.specs.Meaning.Substitution.{Bindings, put, put_expressions}
use Rattle.theory_semantics.proofs.Putting.{put_nothing}
use Rattle.csp_expression.specs.declared.no_value.NoValue.{NoValue}
use Rattle.csp_expression.specs.declared.no_value.NoValue.TheVariants as eval
use Rattle.csp_term.specs.declared.term.Term.{Term}
use Rattle.csp_term.specs.Term.{process_of}
use Rattle.csp_settling.specs.Arguments.{Binds, SeesAll}
use Rattle.csp_settling.specs.Settling.{IsCalled, IsWithin}

module _ (s : Script) (n : ℕ) (es : Expressions) where
  -- an argument without a value
  pub values_stuck : (A : Type 0) (why : NoValue) → SeesAll {A = A} (Err why) (values s.types es) → IsCalled {A = A} (Err why) (called s n es)
  values_stuck A (eval.Cause c) none =
      ap (λ r. r and_then λ vs. ok_or (slice_get s.equations n) IllKinded and_then λ equation. parameter_bindings equation.parameters vs and_then λ bs. Ok (put bs equation.body)) none
  values_stuck A eval.Memory none = tt

  module _ (vs : List Value) (seen : values s.types es ≡ Ok vs) where
    seen_of : called s n es ≡ (ok_or (slice_get s.equations n) IllKinded and_then λ equation. parameter_bindings equation.parameters vs and_then λ bs. Ok (put bs equation.body))
    seen_of = ap (λ r. r and_then λ us. ok_or (slice_get s.equations n) IllKinded and_then λ equation. parameter_bindings equation.parameters us and_then λ bs. Ok (put bs equation.body)) seen

    -- a call of what is no equation
    pub unknown : slice_get s.equations n ≡ None → called s n es ≡ Err IllKinded
    unknown none = seen_of ∙ ap (λ o. ok_or o IllKinded and_then λ equation. parameter_bindings equation.parameters vs and_then λ bs. Ok (put bs equation.body)) none

    module _ (equation : Equation) (at : slice_get s.equations n ≡ Some equation) where
      bound_of : called s n es ≡ (parameter_bindings equation.parameters vs and_then λ bs. Ok (put bs equation.body))
      bound_of = seen_of ∙ ap (λ o. ok_or o IllKinded and_then λ q. parameter_bindings q.parameters vs and_then λ bs. Ok (put bs q.body)) at

      -- not as many arguments as parameters
      pub bindings_stuck : (A : Type 0) (why : NoValue) → Binds {A = A} (Err why) (parameter_bindings equation.parameters vs) → IsCalled {A = A} (Err why) (called s n es)
      bindings_stuck A (eval.Cause c) none = bound_of ∙ ap (λ r. r and_then λ bs. Ok (put bs equation.body)) none
      bindings_stuck A eval.Memory none = tt

      pub goes_to : (bs : Bindings) → parameter_bindings equation.parameters vs ≡ Ok bs → called s n es ≡ Ok (put bs equation.body)
      goes_to bs binds = bound_of ∙ ap (λ r. r and_then λ cs. Ok (put cs equation.body)) binds

-- a term within the limits, or none for one past them
pub is_within : {A : Type 0} (t : Term A) (p : Process) → process_of t ≡ p → IsTrue (fits (process_of t)) → IsWithin (Some t) p
is_within t p is fit = ap Some is ∙ sym (ap (λ b. cond b (Some p) None) (sym (ap fits is) ∙ fit))

pub is_past : (A : Type 0) (p : Process) → IsFalse (fits p) → IsWithin {A = A} None p
is_past A p past = sym (ap (λ b. cond b (Some p) None) past)

-- and back
pub within_some : {A : Type 0} (t : Term A) (p : Process) → IsWithin (Some t) p → (process_of t ≡ p) × IsTrue (fits (process_of t))
within_some t p is = by_fit (fits p) refl is
  where
    by_fit : (b : Bool) → fits p ≡ b → Some (process_of t) ≡ cond b (Some p) None → (process_of t ≡ p) × IsTrue (fits (process_of t))
    by_fit true fit e = let same : process_of t ≡ p = cc e in (same, ap fits same ∙ fit)
    by_fit false fit e = absurd (cc e)

pub within_none : (A : Type 0) (p : Process) → IsWithin {A = A} None p → IsFalse (fits p)
within_none A p is = by_fit (fits p) refl is
  where
    by_fit : (b : Bool) → fits p ≡ b → None ≡ cond b (Some p) None → b ≡ false
    by_fit true fit e = absurd (cc e)
    by_fit false fit e = refl

-- ---- no value put in

abbrev arguments : Process → Expressions
arguments (Call n es) = es
arguments p = no_expressions

pub called_bare : (s : Script) (n : ℕ) (es : Expressions) → called s n (put_expressions [] es) ≡ called s n es
called_bare s n es = ap (λ p. called s n (arguments p)) (put_nothing (Call 0 es))
