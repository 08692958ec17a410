-- A name alone is looked up, then its number of fields, then its class.
use Rattle.std.proofs.Common.{◌∷◌, []}
use Rattle.theory_checking.specs.Sites.{AsExpression, Used}
use Rattle.theory_checking.proofs.SingleSites.{unknown_stops}
use Rattle.csp_expression.specs.Expression.{expression_of}
use Rattle.csp_parse.specs.Names.{name_of}
use Rattle.csp_names.specs.declared.refusals.KindFault.TheVariants as fault
use Rattle.csp_names.specs.Meanings.{meaning_of}
use Rattle.csp_names.proofs.ChannelNames.{stops_at}
use Rattle.csp_names.proofs.ConstructorNames.{bare_is_refused, expression_is_fine, no_expression}
use Rattle.csp_names.proofs.scope.Scope.resolve_use.Goals as goal

pub returns-in_default : goal.returns-in_default
returns-in_default g c env stands =
    let n = name_of c.args.name in
    stops_at (Used env AsExpression n ∷ []) c.at.result fault.UnknownName c.args.name.place c.at.ensures (unknown_stops env AsExpression n (c.in_default.ensures env stands))

pub returns-then-lacks_fields : goal.returns-then-lacks_fields
returns-then-lacks_fields g c env stands =
    let n = name_of c.args.name in
    let is = c.in-Some.ensures env stands in
    stops_at (Used env AsExpression n ∷ []) c.at-then-lacks_fields.result fault.WrongCount c.args.name.place c.at-then-lacks_fields.ensures
    (bare_is_refused env n (meaning_of c.in-Some.meaning) is (c.if-lacks_fields.ensures c.args.bound.now env n stands is))

pub returns-in-Some-expression : goal.returns-in-Some-expression
returns-in-Some-expression g c env stands =
    let n = name_of c.args.name in
    let is = c.in-Some.ensures env stands in
    let fine = expression_is_fine env n (meaning_of c.in-Some.meaning) is (expression_of c.in-Some-expression.expression) (c.if-lacks_fields.ensures c.args.bound.now env n stands is) c.in-Some-expression.ensures in
    ((fine.0, tt), fine.1)

pub returns-in-None : goal.returns-in-None
returns-in-None g c env stands =
    let n = name_of c.args.name in
    stops_at (Used env AsExpression n ∷ []) c.at-in-None.result fault.WrongKind c.args.name.place c.at-in-None.ensures (no_expression env n (meaning_of c.in-Some.meaning) (c.in-Some.ensures env stands) c.in-None.ensures)
