-- There is a member, or none.
use Rattle.std.proofs.Common.{◌∙◌, sym}
use Rattle.csp_kinds.proofs.Counting.{empty_none, filled_some}
use Rattle.csp_kinds.proofs.fields.field_set_of.Goals as goal

pub returns-then-is_empty : goal.returns-then-is_empty
returns-then-is_empty g c = empty_none c.members-values.result.now c.args.members.now c.members-values.ensures (sym c.is_empty.ensures ∙ c.if-is_empty.true)

pub returns : goal.returns
returns g c =
    filled_some c.members-values.result.now c.in_ok-values.values.items c.args.members.now c.from_values.result c.members-values.ensures
    (sym c.is_empty.ensures ∙ c.if-is_empty.false) c.in_ok-values.ensures c.from_values.ensures
