-- A copy has the same channel, and copies of the fields.
use Rattle.std.proofs.Common.{List, ◌∙◌, ap}
use Rattle.theory_syntax.specs.Value as pure
use Rattle.csp_value.specs.Value.{values_of}
use Rattle.csp_value.proofs.action.Event.try_copy.Goals as goal

pub returns : goal.returns
returns g c =
    let make : List pure.Value → pure.Event = λ vs. record { channel = c.args.self.now.channel.0; fields = vs } in
    ap make (c.in_ok-fields.ensures ∙ ap values_of c.as_slice.ensures)
