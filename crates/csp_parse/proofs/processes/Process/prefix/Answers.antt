use Rattle.std.proofs.Common.{◌∙◌}
use Rattle.std.proofs.lemmas.Result.{IfOk-weaker}
use Rattle.csp_parse.proofs.ProcessTrees.{tree_of_prefix}
use Rattle.csp_parse.proofs.processes.Process.prefix.Goals as goal

pub returns-clause-makes : goal.returns-clause-makes
returns-clause-makes g c = IfOk-weaker c.boxed.result _ _ (λ _ same. same ∙ tree_of_prefix g.row.A.Denot c.args.channel c.args.fields c.args.body) c.boxed.ensures.makes
