-- An external choice between one process and itself, any number of times, has its steps, where none is a tau.
use Rattle.std.proofs.Common.{◌≡◌, ◌∙◌, true, false, Bool, cond, sym, ap, ap₂, subst, List, [], ◌∷◌, map, Contains, Option, Some, None}
use Rattle.theory_syntax.specs.Value.{Action, Tau, Tick, Ev}
use Rattle.theory_syntax.specs.Process.{Process, Script, ExternalChoice}
use Rattle.theory_semantics.specs.Meaning.Limits.{fits}
use Rattle.theory_semantics.specs.Meaning.Transitions as rule
use Rattle.theory_semantics.specs.Meaning.Transitions.{IsVisible, left_grouped}
use Rattle.theory_semantics.proofs.Causes.{external_cause}
use Rattle.csp_steps.specs.Answering.{Answered, IsAnswered, within_limits}
use Rattle.csp_steps.proofs.Operating.{clear_of_both}
use Rattle.csp_steps.specs.Repeating.{AreSameTerm, HasTau}

-- a term within the limits is that of one process
term_of : (p q : Process) → within_limits p ≡ Some q → p ≡ q
term_of p q is = by_fit (fits p) is
  where
    by_fit : (b : Bool) → cond b (Some p) None ≡ Some q → p ≡ q
    by_fit true same = let k : Some p ≡ Some q = same in cc k
    by_fit false same = absurd (cc same)

pub same_process : (p q : Process) (o r : Option Process) → o ≡ within_limits p → r ≡ within_limits q → AreSameTerm o r → q ≡ p
same_process p q o r first second same = term_of q same.0 (sym second ∙ same.2) ∙ sym (term_of p same.0 (sym first ∙ same.1))

module _ (s : Script) (p : Process) (steps : List Answered) (is : IsAnswered s p steps) (no_tau : HasTau steps → ⊥) where
  module _ (q : Process) (so_far : IsAnswered s q steps) where
    seen_of : (x : Action) (t : Option Process) → Contains steps (x, t) → IsVisible x
    seen_of Tau t has = absurd (no_tau (t, has))
    seen_of Tick t has = tt
    seen_of (Ev e) t has = tt

    among : (x : Action) (u : Process) → rule.RuleStep s (ExternalChoice q p) x u → Contains steps (x, within_limits u)
    among x u (rule.external_tau_left {t = t} step) = absurd (no_tau (within_limits t, so_far.complete Tau t step))
    among x u (rule.external_tau_right {t = t} step) = absurd (no_tau (within_limits t, is.complete Tau t step))
    among x u (rule.external_left seen step) = so_far.complete x u step
    among x u (rule.external_right seen step) = is.complete x u step

    -- the process once more
    once_more : IsAnswered s (ExternalChoice q p) steps
    once_more = record {
      no_cause = clear_of_both s q p (ExternalChoice q p) (external_cause s q p) so_far.no_cause is.no_cause;
      sound = λ x t has. let r = so_far.sound x t has in (r.0, rule.external_left (seen_of x t has) r.1, r.2);
      complete = among;
    }

  pub any_number : {X : Type 0} (xs : List X) (q : Process) → IsAnswered s q steps → IsAnswered s (left_grouped ExternalChoice q (map (λ x. p) xs)) steps
  any_number [] q so_far = so_far
  any_number (x ∷ xs) q so_far = any_number xs (ExternalChoice q p) (once_more q so_far)
