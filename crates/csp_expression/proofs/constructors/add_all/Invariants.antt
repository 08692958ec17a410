use Rattle.std.proofs.Common.{◌≡◌, ◌++◌}
use Rattle.theory_semantics.specs.Meaning.Evaluation.{with_all_fields}
use Rattle.csp_value.specs.Fields.{sets_of}
use Rattle.csp_value.specs.Value.{values_of}
use Rattle.csp_expression.specs.Choosing.{lists_of}
use Rattle.csp_expression.proofs.Constructing.{with_fields}
use Rattle.csp_expression.proofs.constructors.add_all.Given as goal

abbrev pub invariant-loop-fields : goal.invariant-loop-fields
invariant-loop-fields g l =
    values_of l.all.items ++ with_fields l.constructor.0 (lists_of l.fields-iterator.rest.items) ≡ values_of l.fn.members.items ++ with_all_fields l.constructor.0 (sets_of l.sets)
