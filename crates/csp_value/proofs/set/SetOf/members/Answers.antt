use Rattle.std.proofs.Common.{sym, ◌∙◌, ap}
use Rattle.csp_value.specs.Value.{values_of}
use Rattle.csp_value.proofs.Forms.{members_listed}
use Rattle.csp_value.proofs.set.SetOf.members.Goals as goal

pub returns : goal.returns
returns g c = ap values_of c.as_slice.ensures.value ∙ sym (members_listed g.row.A.Denot c.args.self.now)
