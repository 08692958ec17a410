use Rattle.std.proofs.Common.{◌∙◌}
use Rattle.csp_names.proofs.Pairs.{bare_written}
use Rattle.csp_names.proofs.resolve_pairs.is_bare.Goals as goal

pub returns : goal.returns
returns g c = c.is_empty.ensures ∙ bare_written c.args.event.now
