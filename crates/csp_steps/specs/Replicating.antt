-- The instances of a replicated operator, and what is answered of two processes side by side in their chain.
use Rattle.std.specs.Prelude.{◌≡◌, List, [], ◌∷◌, map, Option, Result, Ok, Err}
use Rattle.std.specs.declared.vec.Vec.{Vec}
use Rattle.theory_syntax.specs.Process.{Process, Script, Stop, ExternalChoice, InternalChoice, Interleaving}
use Rattle.theory_semantics.specs.Meaning.Substitution.{bind, put}
use Rattle.theory_semantics.specs.Meaning.Transitions.{chain, left_grouped}
use Rattle.theory_semantics.specs.Meaning.Unfolding.{settled}
use Rattle.csp_value.specs.declared.value.Value.{Value}
use Rattle.csp_value.specs.Value.{value_of}
use Rattle.csp_expression.specs.Bindings.{bindings_of}
use Rattle.csp_expression.specs.declared.cause.Cause.TheVariants as fault
use Rattle.csp_term.specs.Script.{script_of_parts}
use Rattle.csp_term.specs.Term.{process_of}
use Rattle.csp_steps.specs.declared.rule_step.RuleStep.{RuleStep}
use Rattle.csp_steps.specs.declared.side.Side.{Side}
use Rattle.csp_steps.specs.declared.rules.replicated.Instances.{Instances}
use Rattle.csp_steps.specs.declared.rules.replicated.Looking.{Looking}
use Rattle.csp_steps.specs.declared.rules.replicated.Looking.TheVariants as looking
use Rattle.csp_expression.specs.declared.no_value.NoValue.{NoValue}
use Rattle.csp_expression.specs.declared.no_value.NoValue.TheVariants as eval
use Rattle.csp_steps.specs.Answering.{Answered, Answers, within_limits}
use Rattle.csp_steps.specs.Composing.{IsSideOf, external_answers, interleaving_answers, tau_answers}

-- the process with the value put in for the name, under the bindings
abbrev pub instance_of : {A : Type 0} → Instances A → Value A → Process
instance_of i v = put (bind i.name.0 (value_of v) (bindings_of i.bindings.now)) (process_of i.body.now)

abbrev pub instances_of : {A : Type 0} → Instances A → List (Value A) → List Process
instances_of i vs = map (instance_of i) vs

-- the chain of the instances of these values, grouped to the left
abbrev pub instance_chain : {A : Type 0} → Instances A → (Process → Process → Process) → Value A → List (Value A) → Process
instance_chain i under first others = left_grouped under (instance_of i first) (instances_of i others)

-- the process, settled in the script
abbrev pub settled_in : {A : Type 0} → Instances A → Process → Process
settled_in i p = settled (script_of_parts i.script.now) p

-- each of the others' instances is that of the first
abbrev pub AreAlike : {A : Type 0} → Instances A → Value A → List (Value A) → Type 0
AreAlike i first others = instances_of i others ≡ map (λ v. instance_of i first) others

-- what is answered of the chain of the processes behind the one that the side is of
abbrev pub GoesOn : {A : Type 0} → Script → (Process → Process → Process) → Side A → List Process → Result (Vec (RuleStep A) A) NoValue → Type 0
GoesOn s under side qs r = (p : Process) → IsSideOf s p (Ok side) → Answers s (left_grouped under p qs) r

-- a tau to the chain of internal choices before the last value, and one to the last one's instance, both settled
abbrev pub chosen_answers : {A : Type 0} → Instances A → Value A → List (Value A) → Value A → List Answered
chosen_answers i first others last = tau_answers (within_limits (settled_in i (instance_chain i InternalChoice first others))) (within_limits (settled_in i (instance_of i last)))

-- the operator between the instances
abbrev pub looking_process : Looking → Process → Process → Process
looking_process looking.ExternalChoice p q = ExternalChoice p q
looking_process looking.Interleaving p q = Interleaving p q

abbrev pub looking_answers : Looking → Option Process → List Answered → Option Process → List Answered → List Answered
looking_answers looking.ExternalChoice o bs r cs = external_answers o bs r cs
looking_answers looking.Interleaving o bs r cs = interleaving_answers o bs r cs

-- What is answered of the chain of internal choices. Of none there is no chain to answer.
abbrev pub AnswersChoices : {A : Type 0} → Script → List Process → Result (Vec (RuleStep A) A) NoValue → Type 0
AnswersChoices s [] r = r ≡ Err (eval.Cause fault.Choice)
AnswersChoices s (p ∷ ps) r = Answers s (chain InternalChoice Stop (p ∷ ps)) r
