-- The property, the assertion, the equation and the script that those of the code stand for.
use Rattle.std.specs.Prelude.{map, IfSome}
use Rattle.std.specs.String.{string_bytes}
use Rattle.theory_syntax.specs.Process as pure
use Rattle.theory_syntax.specs.Models.{model_of, unfolding_of}
use Rattle.theory_semantics.specs.Kinds.Scripts.{IsTermOf}
use Rattle.csp_term.specs.declared.assertion.Assertion.{Assertion}
use Rattle.csp_term.specs.declared.property.Property.{Property}
use Rattle.csp_term.specs.declared.property.Property.TheVariants as property
use Rattle.csp_events.specs.Channels.{field_sets_of}
use Rattle.csp_term.specs.declared.script.Equation.{Equation}
use Rattle.csp_term.specs.declared.script.ScriptParts.{ScriptParts}
use Rattle.csp_expression.specs.Evaluation.{table_of}
use Rattle.csp_term.specs.Term.{process_of}

abbrev pub property_of : {A : Type 0} → Property A → pure.Property
property_of (property.Refinement model spec) = pure.RefinementOf (model_of model) (process_of spec)
property_of property.DeadlockFree = pure.DeadlockFree
property_of property.DivergenceFree = pure.DivergenceFree

abbrev pub assertion_of : {A : Type 0} → Assertion A → pure.Assertion
assertion_of a = record { negated = a.negated; property = property_of a.property; implementation = process_of a.implementation }

abbrev pub equation_of : {A : Type 0} → Equation A → pure.Equation
equation_of e = record { parameters = map (λ n. n.0) e.parameters.items; body = process_of e.body }

-- the script that has these parts
abbrev pub script_of_parts : {A : Type 0} → ScriptParts A → pure.Script
script_of_parts s = record {
  types = table_of s.types;
  channels = map field_sets_of s.channels.items;
  equations = map equation_of s.equations.items;
  assertions = map assertion_of s.assertions.items;
  channel_names = map (λ c. string_bytes c.spelling) s.channels.items;
  constructor_names = map (λ c. string_bytes c.spelling) s.constructors.items;
  unfolds = unfolding_of s.unfolds;
}

-- a clause sees a script of the code as the one that it stands for
abbrev pub script_of : pure.Script → pure.Script
script_of s = s

-- both sides of the assertion, or the one that it has, are terms of the script
abbrev pub HasSidesOf : {A : Type 0} → pure.Script → Assertion A → Type 0
HasSidesOf s a = IfSome (pure.specification_of (property_of a.property)) (IsTermOf s) × IsTermOf s (process_of a.implementation)
