-- The steps by the communications of a prefix, which are found one behind the other.
use Rattle.std.specs.Prelude.{◌≡◌, ⊤, ℕ, List, [], ◌∷◌, ◌++◌, map, Result, Ok, Err}
use Rattle.std.specs.declared.vec.Vec.{Vec}
use denote.Ref.{Bor}
use Rattle.theory_syntax.specs.Value as pure
use Rattle.theory_syntax.specs.Process as process
use Rattle.theory_syntax.specs.Process.{Process, Script}
use Rattle.theory_semantics.specs.Meaning.Evaluation.{Cause}
use Rattle.theory_semantics.specs.Meaning.Events.{Communication, communications}
use Rattle.theory_semantics.specs.Meaning.Stepping.{communication_steps}
use Rattle.theory_semantics.specs.Meaning.Unfolding.{settled}
use Rattle.csp_value.specs.declared.field_set.FieldSet.{FieldSet}
use Rattle.csp_value.specs.declared.value.Value.{Value}
use Rattle.csp_value.specs.Value.{value_of}
use Rattle.csp_expression.specs.Agreement.{AgreesBy}
use Rattle.csp_expression.specs.Bindings.{bindings_of}
use Rattle.csp_expression.specs.Evaluation.{table_of}
use Rattle.csp_term.specs.declared.field.Field.{Field}
use Rattle.csp_term.specs.Field.{fields_of}
use Rattle.csp_value.specs.Fields.{field_values, sets_of}
use Rattle.csp_term.specs.Script.{script_of_parts}
use Rattle.csp_term.specs.Term.{process_of}
use Rattle.csp_steps.specs.declared.rule_step.RuleStep.{RuleStep}
use Rattle.csp_steps.specs.Answering.{Answered, answers_of, within_limits}
use Rattle.csp_expression.specs.declared.no_value.NoValue.{NoValue}
use Rattle.csp_steps.specs.declared.rules.communications.Front.{Front}
use Rattle.csp_steps.specs.declared.rules.communications.Walk.{Walk}

-- the values that are lent
abbrev pub lent_values : {A : Type 0} → List (Bor (Value A)) → List pure.Value
lent_values vs = map (λ v. value_of v.now) vs

-- the communications with these values before their own
abbrev pub behind_values : List pure.Value → List Communication → List Communication
behind_values vs [] = []
behind_values vs (m ∷ ms) = record { values = vs ++ m.values; bindings = m.bindings } ∷ behind_values vs ms

-- what is answered of a step, of which the target is settled
abbrev pub kept_settled : Script → pure.Action × Process → Answered
kept_settled script s = (s.0, within_limits (settled script s.1))

-- what is found after is what was found before, and the steps by the communications
abbrev pub IsFurther : {A : Type 0} → Script → ℕ → Process → Vec (RuleStep A) A → Vec (RuleStep A) A → List Communication → Type 0
IsFurther script c p before after ms = answers_of after ≡ answers_of before ++ map (kept_settled script) (communication_steps c p ms)

-- so for the communications that are answered; or the first cause
abbrev pub Finds : {A : Type 0} → Script → ℕ → Process → List pure.Value → Vec (RuleStep A) A → Result (List Communication) Cause → Result (Vec (RuleStep A) A) NoValue → Type 0
Finds script c p vs before r x = AgreesBy (λ after r. (ms : List Communication) × (r ≡ Ok ms) × IsFurther script c p before after (behind_values vs ms)) x r

-- so for what these fields allow over these sets, behind the front
abbrev pub FindsBehind : {A : Type 0} → Walk A → Front A → List process.Field → List (List pure.Value) → Vec (RuleStep A) A → Result (Vec (RuleStep A) A) NoValue → Type 0
FindsBehind w f fields sets before x = Finds (script_of_parts w.script.now) w.channel.0 (process_of w.body.now) (lent_values f.values.items) before (communications (table_of w.script.now.types) (bindings_of f.bindings.items) fields sets) x

-- so where this field and its set come before the others
abbrev pub FindsField : {A : Type 0} → Walk A → Front A → process.Field → FieldSet A → List (Field A) → List (FieldSet A) → Vec (RuleStep A) A → Result (Vec (RuleStep A) A) NoValue → Type 0
FindsField w f field set fields sets before x = FindsBehind w f (field ∷ fields_of fields) (field_values set ∷ sets_of sets) before x
