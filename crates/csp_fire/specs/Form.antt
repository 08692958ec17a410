-- The form that a form of the code stands for.
use Rattle.std.specs.Prelude.{map}
use Rattle.theory_syntax.specs.Value as pure
use Rattle.theory_syntax.specs.Process.{Process}
use Rattle.theory_semantics.specs.Meaning.Expansions as meaning
use Rattle.csp_value.specs.Action.{action_of}
use Rattle.csp_expression.specs.Fault.{cause_of}
use Rattle.csp_term.specs.Term.{process_of}
use Rattle.csp_fire.specs.declared.form.Step.{Step}
use Rattle.csp_fire.specs.declared.form.Form.{Form}
use Rattle.csp_fire.specs.declared.form.Form.TheVariants as variant

abbrev pub step_of : {A : Type 0} → Step A → pure.Action × Process
step_of s = (action_of s.action, process_of s.target)

abbrev pub form_of : {A : Type 0} → Form A → meaning.Form
form_of (variant.Steps steps offers) = meaning.Fired (map step_of steps.items) (map (λ xs. map action_of xs.items) offers.items)
form_of (variant.Faulty f) = meaning.FiredFaulty (cause_of f)
form_of variant.Large = meaning.FiredLarge
