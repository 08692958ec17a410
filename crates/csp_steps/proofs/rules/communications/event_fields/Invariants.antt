use Rattle.std.proofs.Common.{◌≡◌, take}
use Rattle.csp_value.specs.Value.{values_of}
use Rattle.csp_steps.specs.Communicating.{lent_values}
use Rattle.csp_steps.proofs.rules.communications.event_fields.Given as goal

abbrev pub invariant-loop-value : goal.invariant-loop-value
invariant-loop-value g l = values_of l.fields.items ≡ lent_values (take l.value-index l.values)
