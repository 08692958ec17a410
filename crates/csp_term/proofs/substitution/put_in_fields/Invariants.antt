use Rattle.csp_expression.specs.Bindings.{bindings_of}
use Rattle.csp_term.proofs.TermPutting.{Fills, Leaves}
use Rattle.csp_term.proofs.substitution.put_in_fields.Given as goal

abbrev pub invariant-loop-field : goal.invariant-loop-field
invariant-loop-field g l =
    Fills (bindings_of l.bindings) l.fields l.all.items (bindings_of l.left.items) l.field-index × Leaves (bindings_of l.bindings) l.fields (bindings_of l.left.items) l.field-index
