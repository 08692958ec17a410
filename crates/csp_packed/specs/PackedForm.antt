-- The steps, the form and the expansion that packed ones stand for.
use Rattle.std.specs.Prelude.{map}
use Rattle.theory_syntax.specs.Value as pure
use Rattle.theory_syntax.specs.Process.{Process, Script}
use Rattle.theory_semantics.specs.Meaning.Expansions as meaning
use Rattle.csp_value.specs.Action.{action_of}
use Rattle.csp_expression.specs.Fault.{cause_of}
use Rattle.csp_packed.specs.declared.kept_term.KeptTerm.{KeptTerm}
use Rattle.csp_packed.specs.Packed.{kept_process, packed_process}
use Rattle.csp_packed.specs.declared.packed_form.PackedStep.{PackedStep}
use Rattle.csp_packed.specs.declared.packed_form.PackedForm.{PackedForm}
use Rattle.csp_packed.specs.declared.packed_form.PackedForm.TheVariants as variant

abbrev pub step_of : {A : Type 0} → PackedStep A → pure.Action × Process
step_of s = (action_of s.action, packed_process s.target.term)

abbrev pub form_of : {A : Type 0} → PackedForm A → meaning.Form
form_of (variant.Steps steps offers) = meaning.Fired (map step_of steps.items) (map (λ xs. map action_of xs.items) offers.items)
form_of (variant.Faulty f) = meaning.FiredFaulty (cause_of f)
form_of variant.Large = meaning.FiredLarge

-- the term of the script with the form
abbrev pub expansion_with : {A : Type 0} → Script → KeptTerm A → PackedForm A → meaning.Expansion
expansion_with script term form = record { script = script; term = kept_process term; form = form_of form }
