use Rattle.std.proofs.Common.{sym, ap, ◌∙◌}
use Rattle.theory_origins.specs.Action.{action_of}
use Rattle.theory_origins.proofs.Reading.{tells_action}
use Rattle.theory_origins.proofs.origins_tell_actions.Goals as goal

pub returns : goal.returns
returns c = λ script p x t o from. ap action_of (sym from.1) ∙ tells_action from.0
