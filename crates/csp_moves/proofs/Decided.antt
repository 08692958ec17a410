-- Whether a term does a step, by all steps that are answered of it.
use Rattle.std.proofs.Common.{◌≡◌, ◌↔◌, Bool, true, false, cond, IsTrue, Contains, List, refl, sym, ◌∙◌, ap, subst, Option, Some, None}
use Rattle.theory_syntax.specs.Value.{Action}
use Rattle.theory_syntax.specs.Process.{Process, Script}
use Rattle.theory_semantics.specs.Meaning.Evaluation.{Cause}
use Rattle.theory_semantics.specs.Meaning.Faults.{cause_in}
use Rattle.theory_semantics.specs.Meaning.Limits.{fits}
use Rattle.theory_semantics.specs.Meaning.Transitions as rule
use Rattle.theory_origins.specs.Telling.{Tells}
use Rattle.csp_steps.specs.Answering.{Answered, IsAnswered, within_limits}
use Rattle.csp_moves.specs.Deciding.{IsDecided}

kept_as : (b : Bool) (t u : Process) → Some t ≡ cond b (Some u) None → t ≡ u
kept_as true t u h = cc h
kept_as false t u h = absurd (cc h)

-- a target that is answered is that of the step
target_is : (t u : Process) → Some t ≡ within_limits u → t ≡ u
target_is t u h = kept_as (fits u) t u h

within_some : (t : Process) → IsTrue (fits t) → within_limits t ≡ Some t
within_some t h = ap (λ b. cond b (Some t) None) h

module _ (s : Script) (p : Process) (x : Action) (t : Process) where
  pub decided : (steps : List Answered) (b : Bool) → IsAnswered s p steps → IsTrue b ↔ Contains steps (x, Some t) → IsDecided s p x t b
  decided steps true are has =
      let found = are.sound x (Some t) (has.0 refl) in
      let P : Process → Type 0 = λ u. rule.RuleStep s p x u in
      subst P (sym (target_is t found.0 found.2)) found.1
  decided steps false are has = λ clear within step.
      let P : Option Process → Type 0 = λ o. Contains steps (x, o) in
      let e : false ≡ true = has.1 (subst P (within_some t within) (are.complete x t step)) in
      cc e

  pub faulty : (c : Cause) → cause_in s p ≡ Some c → Tells s p x t None
  faulty c is = λ clear within step. let e : Some c ≡ None = sym is ∙ clear in cc e
