-- The fields of a constructor are smaller than it.
use Rattle.std.proofs.Common.{◌≡◌, ◌+◌, ◌∙◌, ap, max, rules, arith}
use denote.Param.Weighed.{most}
use Rattle.csp_parse.specs.declared.expressions.Expression.{size-Expression}
use Rattle.csp_parse.specs.declared.expressions.Expression.TheViews.{sized-Constructor}
use Rattle.tests_parse.proofs.show.+expression.Goals as goal

pub expression-listed-requires-in-Constructor : goal.expression-listed-requires-in-Constructor
expression-listed-requires-in-Constructor g t c κs within =
    let size = size-Expression g.row.A.Denot in
    let whole : size c.args.item.now ≡ max 0 (max (most size c.in-Constructor.fields.items) 0) + 1 = ap size c.in-Constructor.is ∙ sized-Constructor g.row.A.Denot c.in-Constructor.constructor c.in-Constructor.fields in
    let part : most size c.deref-in-Constructor.result.now ≡ most size c.in-Constructor.fields.items = ap (most size) c.deref-in-Constructor.ensures.value in
    (omega (arith, c.decreases, whole, part), search rules)
