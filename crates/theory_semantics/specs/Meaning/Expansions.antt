-- What one firing of a term shows: all its steps and offers, or why it is stuck.
use Rattle.std.specs.Prelude.{◌↔◌, List, Contains}
use Rattle.std.specs.declared.cmp.Ordering.{Ordering}
use Rattle.std.specs.Ordering.{ordering_then}
use Rattle.std.specs.Cmp.Lexicographic.{slice_cmp}
use Rattle.theory_syntax.specs.Value.{Action, action_cmp}
use Rattle.theory_syntax.specs.Process.{Process, Script}
use Rattle.theory_syntax.specs.Order.{process_cmp}
use Rattle.theory_semantics.specs.Meaning.Evaluation.{Cause}
use Rattle.theory_semantics.specs.Meaning.Transitions.{RuleStep, IsFaulty, IsLarge, IsNotStuck}
use Rattle.theory_semantics.specs.Meaning.Offers.{RisesBy, IsAcceptance}

pub data Form : Type 0 where
  Fired : (steps : List (Action × Process)) (offers : List (List Action)) → Form
  FiredFaulty : (cause : Cause) → Form
  FiredLarge : Form

-- by action, then by target
abbrev pub step_cmp : Action × Process → Action × Process → Ordering
step_cmp s t = ordering_then (action_cmp s.0 t.0) (process_cmp s.1 t.1)

-- by the first actions in which they differ; a beginning is less than the longer list
abbrev pub offers_cmp : List Action → List Action → Ordering
offers_cmp = slice_cmp action_cmp

-- The lists are exactly the steps of the term, by action and then by target, each once, and exactly its acceptances, sorted, each once.
pub record IsFired (script : Script) (t : Process) (steps : List (Action × Process)) (offers : List (List Action)) : Type 0 where
  pub not_stuck : IsNotStuck script t
  pub each_step : (x : Action) (u : Process) → RuleStep script t x u ↔ Contains steps (x, u)
  pub steps_rise : RisesBy step_cmp steps
  pub each_offer : (xs : List Action) → IsAcceptance script t xs ↔ Contains offers xs
  pub offers_rise : RisesBy offers_cmp offers

-- what the rules say of a term
abbrev pub IsFormOf : Script → Process → Form → Type 0
IsFormOf script t (Fired steps offers) = IsFired script t steps offers
IsFormOf script t (FiredFaulty c) = IsFaulty script t c
IsFormOf script t FiredLarge = IsLarge script t

-- a term of a script with its form
pub record Expansion : Type 0 where
  pub script : Script
  pub term : Process
  pub form : Form

-- the form is exactly what the rules say of the term
abbrev pub IsExpansion : Expansion → Type 0
IsExpansion e = IsFormOf e.script e.term e.form
