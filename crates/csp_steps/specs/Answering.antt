-- What the rules answer of a term, and why they answer nothing.
use Rattle.std.specs.Prelude.{◌≡◌, cond, List, [], ◌∷◌, map, Contains, Option, Some, None, Result}
use Rattle.std.specs.Option.{option_map}
use Rattle.std.specs.declared.vec.Vec.{Vec}
use Rattle.theory_syntax.specs.Value as pure
use Rattle.theory_syntax.specs.Process.{Process, Script}
use Rattle.theory_semantics.specs.Meaning.Limits.{fits}
use Rattle.theory_semantics.specs.Meaning.Faults.{cause_in}
use Rattle.theory_semantics.specs.Meaning.Stepping.{Steps}
use Rattle.theory_semantics.specs.Meaning.Transitions as rule
use Rattle.csp_value.specs.Action.{action_of}
use Rattle.csp_expression.specs.Agreement.{Agrees}
use Rattle.csp_term.specs.Script.{script_of_parts}
use Rattle.csp_term.specs.Term.{process_of}
use Rattle.csp_term.specs.declared.script.ScriptParts.{ScriptParts}
use Rattle.csp_term.specs.declared.term.Term.{Term}
use Rattle.theory_semantics.specs.Meaning.Substitution.{put}
use Rattle.csp_expression.specs.Bindings.{bindings_of}
use Rattle.csp_expression.specs.declared.substitution.Binding.{Binding}
use Rattle.csp_steps.specs.declared.rule_step.RuleStep.{RuleStep}
use Rattle.csp_steps.specs.declared.rule_step.Target.{Target}
use Rattle.csp_steps.specs.declared.rule_step.Target.TheVariants as target
use Rattle.csp_expression.specs.declared.no_value.NoValue.{NoValue}

-- ---- steps that may lead past the limits

-- A step as it is answered: its action, and its target, if that is within the limits.
abbrev pub Answered : Type 0
Answered = pure.Action × Option Process

-- what is answered of a target
abbrev pub within_limits : Process → Option Process
within_limits u = cond (fits u) (Some u) None

-- what is answered of a step
abbrev pub kept : pure.Action × Process → Answered
kept s = (s.0, within_limits s.1)

abbrev pub target_of : {A : Type 0} → Target A → Option Process
target_of (target.Within t) = Some (process_of t)
target_of target.Past = None

abbrev pub answered_of : {A : Type 0} → RuleStep A → Answered
answered_of s = (action_of s.action, target_of s.target)

-- what is answered of the steps, in turn
abbrev pub answers_of : {A : Type 0} → Vec (RuleStep A) A → List Answered
answers_of steps = map answered_of steps.items

-- No rule for the term has a cause, what is answered are its rule steps, and each of its rule steps is answered.
pub record IsAnswered (s : Script) (p : Process) (steps : List Answered) : Type 0 where
  pub no_cause : cause_in s p ≡ None
  pub sound : (x : pure.Action) (t : Option Process) → Contains steps (x, t) → (u : Process) × rule.RuleStep s p x u × (t ≡ within_limits u)
  pub complete : (x : pure.Action) (u : Process) → rule.RuleStep s p x u → Contains steps (x, within_limits u)

-- The rule steps of the term, or the first cause.
abbrev pub Answers : {A : Type 0} → Script → Process → Result (Vec (RuleStep A) A) NoValue → Type 0
Answers s p x = Agrees (λ steps q. IsAnswered s q (answers_of steps)) (λ c q. cause_in s q ≡ Some c) x p

-- The same in a script that is given by its parts.
abbrev pub AnswersIn : {A : Type 0} → ScriptParts A → Process → Result (Vec (RuleStep A) A) NoValue → Type 0
AnswersIn script p x = Answers (script_of_parts script) p x

-- the term's process, with the values of the bindings put in
abbrev pub process_under : {A : Type 0} → List (Binding A) → Term A → Process
process_under bs t = put (bindings_of bs) (process_of t)

-- the steps, where none leads past the limits
abbrev pub all_within : List Answered → Option Steps
all_within [] = Some []
all_within ((x, None) ∷ ss) = None
all_within ((x, Some u) ∷ ss) = option_map (λ us. (x, u) ∷ us) (all_within ss)
