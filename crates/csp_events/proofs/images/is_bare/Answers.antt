-- No fields are no expressions.
use Rattle.std.proofs.Common.{◌∙◌}
use Rattle.csp_events.proofs.Naming.{none_is_bare}
use Rattle.csp_events.proofs.images.is_bare.Goals as goal

pub returns : goal.returns
returns g c = c.is_empty.ensures ∙ none_is_bare c.args.written.now
