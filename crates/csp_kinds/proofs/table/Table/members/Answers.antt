-- The set is evaluated where all that it uses has members.
use Rattle.std.proofs.Common.{◌∙◌}
use Rattle.std.proofs.lemmas.Result.{IfOk-weaker}
use Rattle.csp_expression.specs.Expression.{expression_of}
use Rattle.csp_kinds.proofs.Using.{members_found, no_members}
use Rattle.csp_kinds.proofs.table.Table.members.Goals as goal

pub returns-then-has_all : goal.returns-then-has_all
returns-then-has_all g c =
    IfOk-weaker c.members_of.result _ _
    (λ found h dts ms is. h ∙ members_found c.args.self.now dts ms is (expression_of c.args.set.now) c.has_all.result c.if-has_all.true c.has_all.ensures) c.members_of.ensures

pub returns-else-has_all : goal.returns-else-has_all
returns-else-has_all g c dts ms is = no_members c.args.self.now dts ms is (expression_of c.args.set.now) c.has_all.result c.if-has_all.false c.has_all.ensures
