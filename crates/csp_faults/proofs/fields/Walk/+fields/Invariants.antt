-- Nothing is to blame behind the values that were looked at. Each call has fewer fields to go.
use Rattle.std.proofs.Common.{◌+◌, ◌*◌, length}
use Rattle.theory_faults.specs.Events.{bindings_behind, fields_culprit}
use Rattle.csp_value.specs.Fields.{field_values, sets_of}
use Rattle.csp_expression.specs.Bindings.{bindings_of}
use Rattle.csp_expression.specs.Evaluation.{table_of}
use Rattle.csp_term.specs.Field.{field_of, fields_of}
use Rattle.csp_faults.proofs.Found.{Rests}
use Rattle.csp_faults.proofs.fields.Walk.+fields.Given as goal

abbrev pub decreases-fields_culprit : goal.decreases-fields_culprit
decreases-fields_culprit g l = 2 * length l.fields.now

abbrev pub decreases-culprit_behind : goal.decreases-culprit_behind
decreases-culprit_behind g l = 1 + 2 * length l.fields.now

abbrev pub invariant-culprit_behind-loop-value : goal.invariant-culprit_behind-loop-value
invariant-culprit_behind-loop-value g l =
    Rests (λ ds. fields_culprit (table_of l.self.types.now) l.self.channel.0 l.before ds (fields_of l.fields) (sets_of l.sets)) (bindings_behind (table_of l.self.types.now) (bindings_of l.bindings) (field_of l.field) (field_values l.set)) l.value-index
