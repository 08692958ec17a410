use Rattle.std.proofs.Common.{ap, Some}
use Rattle.csp_expression.specs.Evaluation.{table_of}
use Rattle.csp_expression.specs.Expression.{expression_of}
use Rattle.csp_inference.specs.Solving.{lent_expression}
use Rattle.csp_inference.proofs.SetsInTurn.{field_fits, no_column, no_field_set}
use Rattle.csp_inference.proofs.known_kinds.KnownKinds.add_field.Goals as goal

pub returns-in_default : goal.returns-in_default
returns-in_default g c = no_field_set (table_of c.args.types.now) c.args.column (lent_expression c.args.set) c.args.self.now (ap lent_expression c.in_default.is)

pub returns-in_default-2 : goal.returns-in_default-2
returns-in_default-2 g c =
    no_column (table_of c.args.types.now) c.args.column (lent_expression c.args.set) c.args.self.now c.deref.result.now c.deref.ensures.value c.in_ok-members.field-0 c.in_ok-members.ensures c.args.self.now c.in_default-2.is

pub returns : goal.returns
returns g c =
    field_fits (table_of c.args.types.now) c.args.column (lent_expression c.args.set) c.args.self.now c.deref.result.now c.deref.ensures.value c.in_ok-members.field-0 c.in_ok-members.ensures c.in-Some-2.members c.in-Some-2.is c.deref-2.result.now c.deref-2.ensures.value
    c.solve_copies.new.self (Some (expression_of c.in-Some.set.now)) (ap lent_expression c.in-Some.is) c.solve_copies.result c.solve_copies.ensures
