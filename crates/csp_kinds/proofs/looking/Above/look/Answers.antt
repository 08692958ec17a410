-- The set is resolved among the names above it, and evaluated over the nametypes above it; or a name in it is refused.
use Rattle.theory_checking.specs.Names.{environment_above}
use Rattle.theory_checking.specs.Resolving as resolving
use Rattle.theory_checking.specs.Sets.{datatypes_of, members_above}
use Rattle.theory_checking.specs.Sites.{in_expression}
use Rattle.csp_parse.specs.Expressions.{expression_of}
use Rattle.csp_expression.specs.Expression as code
use Rattle.csp_kinds.proofs.Looked.{looked_refused, looked_set, walked_goes, walked_stops}
use Rattle.csp_names.proofs.Standing.{set_stands}
use Rattle.csp_kinds.proofs.looking.Above.look.Goals as goal

pub returns-in-Ok : goal.returns-in-Ok
returns-in-Ok g c raw above below d over stands is =
    looked_set raw above d (expression_of c.args.set.now) is c.in-Ok.set c.in_ok-members-in-Ok.members
    (walked_goes (in_expression (environment_above above) (expression_of c.args.set.now)) (resolving.expression_of (environment_above above) (expression_of c.args.set.now)) code.expression_of
    c.resolve_expression-resolved.result c.in-Ok.set c.in-Ok.is
    (c.resolve_expression-resolved.ensures (environment_above above) (set_stands _ c.new-bound.ensures _ raw above below over.names stands over.visible)))
    (c.in_ok-members-in-Ok.ensures (datatypes_of raw) (members_above raw above) over.table)

pub returns : goal.returns
returns g c raw above below d over stands is =
    looked_refused raw above d (expression_of c.args.set.now) is c.in_ok-fault_by-in-Err.field-0.fault c.in_ok-fault_by-in-Err.field-0.place
    (walked_stops (in_expression (environment_above above) (expression_of c.args.set.now)) (resolving.expression_of (environment_above above) (expression_of c.args.set.now)) code.expression_of
    c.resolve_expression-resolved.result c.in-Err.refused c.in_ok-fault_by-in-Err.field-0.fault c.in_ok-fault_by-in-Err.field-0.place c.in-Err.is c.in_ok-fault_by-in-Err.ensures
    (c.resolve_expression-resolved.ensures (environment_above above) (set_stands _ c.new-bound.ensures _ raw above below over.names stands over.visible)))
