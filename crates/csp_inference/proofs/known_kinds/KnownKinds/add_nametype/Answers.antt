use Rattle.std.proofs.Common.{ap, Some}
use Rattle.csp_expression.specs.Evaluation.{table_of}
use Rattle.csp_expression.specs.Expression.{expression_of}
use Rattle.csp_inference.specs.Solving.{lent_expression}
use Rattle.csp_inference.proofs.SetsInTurn.{nametype_fits, no_nametype_set, no_number}
use Rattle.csp_inference.proofs.known_kinds.KnownKinds.add_nametype.Goals as goal

pub returns-in_default : goal.returns-in_default
returns-in_default g c = no_nametype_set (table_of c.args.types.now) c.args.nametype (lent_expression c.args.set) c.args.self.now (ap lent_expression c.in_default.is)

pub returns-in_default-number_at : goal.returns-in_default-number_at
returns-in_default-number_at g c = no_number (table_of c.args.types.now) c.args.nametype (lent_expression c.args.set) c.args.self.now c.deref.result.now c.deref.ensures.value c.args.self.now c.in_default-number_at.ensures

pub returns : goal.returns
returns g c =
    nametype_fits (table_of c.args.types.now) c.args.nametype (lent_expression c.args.set) c.args.self.now c.deref.result.now c.deref.ensures.value c.solve_set.new.self c.in-Some-number_at.members c.in-Some-number_at.ensures (Some (expression_of c.in-Some.set.now))
    (ap lent_expression c.in-Some.is) c.solve_set.result c.solve_set.ensures
