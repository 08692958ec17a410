use Rattle.std.proofs.Common.{◌∙◌, ap, subst, sym}
use Rattle.csp_names.specs.Rows.{AreTexts, spelled}
use Rattle.csp_names.proofs.BoundRows.{inserted_row, inserted_texts}
use Rattle.csp_names.proofs.bound_names.BoundNames.put.Goals as goal

pub returns-clause-puts : goal.returns-clause-puts
returns-clause-puts g c u texts = record {
  texts = subst AreTexts (sym c.in_ok-insert.ensures.entries) (inserted_texts c.args.text u c.args.row c.args.self.now.table.entries texts);
  rows = ap spelled c.in_ok-insert.ensures.entries ∙ inserted_row c.args.text u c.args.row c.args.self.now.table.entries texts;
}
