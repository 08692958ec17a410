-- What is answered of a process under bindings.
use Rattle.std.specs.Prelude.{List, Result}
use Rattle.std.specs.declared.vec.Vec.{Vec}
use Rattle.theory_syntax.specs.Process.{Process}
use Rattle.theory_semantics.specs.Meaning.Substitution.{put}
use Rattle.csp_expression.specs.Bindings.{bindings_of}
use Rattle.csp_expression.specs.declared.no_value.NoValue.{NoValue}
use Rattle.csp_expression.specs.declared.substitution.Binding.{Binding}
use Rattle.csp_term.specs.declared.script.ScriptParts.{ScriptParts}
use Rattle.csp_steps.specs.declared.rule_step.RuleStep.{RuleStep}
use Rattle.csp_steps.specs.Answering.{AnswersIn}

-- The rule steps in the script of the process with the values of the bindings put in, or the first cause.
abbrev pub AnswersUnder : {A : Type 0} → ScriptParts A → List (Binding A) → Process → Result (Vec (RuleStep A) A) NoValue → Type 0
AnswersUnder script bs p x = AnswersIn script (put (bindings_of bs) p) x
