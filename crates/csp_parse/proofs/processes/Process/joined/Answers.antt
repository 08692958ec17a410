use Rattle.std.proofs.Common.{◌∙◌}
use Rattle.std.proofs.lemmas.Result.{IfOk-weaker}
use Rattle.csp_parse.proofs.ProcessTrees.{tree_of_infix}
use Rattle.csp_parse.proofs.processes.Process.joined.Goals as goal

pub returns-clause-makes : goal.returns-clause-makes
returns-clause-makes g c = IfOk-weaker c.boxed.result _ _ (λ _ same. same ∙ tree_of_infix g.row.A.Denot c.args.operator c.args.left c.args.right) c.boxed.ensures.makes
