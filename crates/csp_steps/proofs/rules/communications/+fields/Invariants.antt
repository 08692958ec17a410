-- Each value or field that is passed leaves fewer fields; what is found so far is by the values so far.
use Rattle.std.proofs.Common.{◌+◌, ◌*◌, Ok, filter, length, take}
use Rattle.theory_syntax.specs.Value.{has_value}
use Rattle.theory_semantics.specs.Meaning.Evaluation.{◌and_then◌}
use Rattle.theory_semantics.specs.Meaning.Events.{communications, with_value}
use Rattle.theory_semantics.specs.Meaning.Substitution.{bind}
use Rattle.csp_value.specs.Value.{values_of}
use Rattle.csp_expression.specs.Bindings.{bindings_of}
use Rattle.csp_expression.specs.Evaluation.{table_of}
use Rattle.csp_value.specs.Fields.{field_values, sets_of}
use Rattle.csp_term.specs.Field.{fields_of}
use Rattle.csp_term.specs.Script.{script_of_parts}
use Rattle.csp_term.specs.Term.{process_of}
use Rattle.csp_steps.specs.Communicating.{lent_values}
use Rattle.csp_steps.proofs.Further.{FoundSoFar}
use Rattle.csp_steps.proofs.rules.communications.+fields.Given as goal

abbrev pub decreases-look_for : goal.decreases-look_for
decreases-look_for g l = 2 * length l.fields.now

abbrev pub decreases-given : goal.decreases-given
decreases-given g l = 1 + 2 * length l.fields.now

abbrev pub decreases-inputs : goal.decreases-inputs
decreases-inputs g l = 1 + 2 * length l.fields.now

abbrev pub decreases-inputs_from : goal.decreases-inputs_from
decreases-inputs_from g l = 1 + 2 * length l.fields.now

abbrev pub invariant-inputs-loop-value : goal.invariant-inputs-loop-value
invariant-inputs-loop-value g l =
    FoundSoFar (λ v. communications (table_of l.walk.script.now.types) (bind l.name.0 v (bindings_of l.front.bindings.items)) (fields_of l.fields) (sets_of l.sets) and_then λ ms. Ok (with_value v ms))
    (script_of_parts l.walk.script.now) l.walk.channel.0 (process_of l.walk.body.now) (lent_values l.front.values.items) l.fn.found (values_of (take l.value-index l.value-items)) l.found

abbrev pub invariant-inputs_from-loop-value : goal.invariant-inputs_from-loop-value
invariant-inputs_from-loop-value g l =
    FoundSoFar (λ v. communications (table_of l.walk.script.now.types) (bind l.name.0 v (bindings_of l.front.bindings.items)) (fields_of l.fields) (sets_of l.sets) and_then λ ms. Ok (with_value v ms))
    (script_of_parts l.walk.script.now) l.walk.channel.0 (process_of l.walk.body.now) (lent_values l.front.values.items) l.fn.found (filter (λ v. has_value (field_values l.set) v) (values_of (take l.value-index l.value-items))) l.found
