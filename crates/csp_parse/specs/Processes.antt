-- Processes, as the definitions have them.
use Rattle.std.specs.Prelude.{List, map}
use Rattle.std.specs.Box.{box_value}
use Rattle.std.specs.declared.boxed.Box.{Box}
use Rattle.theory_syntax.specs.declared.process_operator.ProcessOperator.TheVariants as chaining
use Rattle.theory_syntax.specs.declared.process_operator.ReplicatedOperator.{ReplicatedOperator}
use Rattle.theory_syntax.specs.declared.process_operator.ReplicatedOperator.TheVariants as replicator
use Rattle.theory_text.specs.Raw as raw
use Rattle.theory_text.specs.Raw.{RawField, RawGiven, RawInput, RawInputFrom, RawProcess, RawStop, RawSkip, RawCall, RawPrefix, RawGuard, RawIf, RawInfix, RawGeneralisedParallel, RawAlphabetisedParallel, RawHiding, RawRenaming, RawReplicated}
use Rattle.csp_parse.specs.declared.expressions.Expression.{Expression}
use Rattle.csp_parse.specs.declared.processes.Field.{Field}
use Rattle.csp_parse.specs.declared.processes.Field.TheVariants as field
use Rattle.csp_parse.specs.declared.processes.Infix.{Infix}
use Rattle.csp_parse.specs.declared.processes.Infix.TheVariants as joining
use Rattle.csp_parse.specs.declared.processes.Process.{Process}
use Rattle.csp_parse.specs.declared.processes.Process.TheOpen as layer
use Rattle.csp_parse.specs.declared.processes.Process.TheFolds.{fold-Process}
use Rattle.csp_parse.specs.Events.{pair_of}
use Rattle.csp_parse.specs.EventSets.{event_set_of}
use Rattle.csp_parse.specs.Expressions.{expression_of, expressions_of}
use Rattle.csp_parse.specs.Names.{name_of}

abbrev pub field_of : {A : Type 0} → Field A → RawField
field_of (field.Given e) = RawGiven (expression_of e)
field_of (field.Input n) = RawInput (name_of n)
field_of (field.InputFrom n e) = RawInputFrom (name_of n) (expression_of e)

-- fields that are given with a dot
abbrev pub fields_given : {A : Type 0} → List (Expression A) → List RawField
fields_given es = map (λ e. RawGiven (expression_of e)) es

abbrev pub infix_of : Infix → raw.Infix
infix_of (joining.Operator chaining.ExternalChoice) = raw.ExternalInfix
infix_of (joining.Operator chaining.InternalChoice) = raw.InternalInfix
infix_of (joining.Operator chaining.Sequential) = raw.SequentialInfix
infix_of (joining.Operator chaining.Interleaving) = raw.InterleavingInfix
infix_of (joining.Operator chaining.Interrupt) = raw.InterruptInfix
infix_of joining.Sliding = raw.SlidingInfix

abbrev pub replicator_of : ReplicatedOperator → raw.Replicator
replicator_of replicator.ExternalChoice = raw.ExternalReplicator
replicator_of replicator.InternalChoice = raw.InternalReplicator
replicator_of replicator.Interleaving = raw.InterleavingReplicator

-- one layer, with the processes of the parts in their places
abbrev pub process_step : {A : Type 0} → layer.Process-F A RawProcess → RawProcess
process_step layer.Stop = RawStop
process_step layer.Skip = RawSkip
process_step (layer.Call n es) = RawCall (name_of n) (expressions_of es.items)
process_step (layer.Prefix n fs p) = RawPrefix (name_of n) (map field_of fs.items) (box_value p)
process_step (layer.Guard e p) = RawGuard (expression_of e) (box_value p)
process_step (layer.If e p q) = RawIf (expression_of e) (box_value p) (box_value q)
process_step (layer.Infix o p q) = RawInfix (infix_of o) (box_value p) (box_value q)
process_step (layer.GeneralisedParallel p s q) = RawGeneralisedParallel (box_value p) (event_set_of s) (box_value q)
process_step (layer.AlphabetisedParallel p s t q) = RawAlphabetisedParallel (box_value p) (event_set_of s) (event_set_of t) (box_value q)
process_step (layer.Hiding p s) = RawHiding (box_value p) (event_set_of s)
process_step (layer.Renaming p ps) = RawRenaming (box_value p) (map pair_of ps.items)
process_step (layer.Replicated o n e p) = RawReplicated (replicator_of o) (name_of n) (expression_of e) (box_value p)

abbrev pub process_of : {A : Type 0} → Process A → RawProcess
process_of {A} = fold-Process A RawProcess process_step

-- the process in a box
abbrev pub process_in : {A : Type 0} → Box (Process A) A → RawProcess
process_in p = process_of (box_value p)
