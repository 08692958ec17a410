use Rattle.std.proofs.Common.{◌∙◌}
use Rattle.csp_names.proofs.Rows.{found_row}
use Rattle.csp_names.proofs.bound_names.BoundNames.row.Goals as goal

pub returns : goal.returns
returns g c u texts = c.copied.ensures ∙ c.get.ensures.value ∙ found_row c.args.text.now u c.args.self.now.table.entries texts
