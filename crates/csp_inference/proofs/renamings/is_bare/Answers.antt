use Rattle.std.proofs.Common.{◌∙◌}
use Rattle.csp_inference.proofs.AskingRenamings.{none_is_bare}
use Rattle.csp_inference.proofs.renamings.is_bare.Goals as goal

pub returns : goal.returns
returns g c = c.is_empty.ensures ∙ none_is_bare c.args.event.now
