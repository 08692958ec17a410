use Rattle.std.proofs.Common.{sym, ◌∙◌}
use Rattle.csp_packed.proofs.Spelled.{within_there}
use Rattle.csp_packed.proofs.packed_term.PackedTerm.bytes.Goals as goal

pub returns-clause-spelled : goal.returns-clause-spelled
returns-clause-spelled g c = c.args.self.now.spells.1 ∙ sym c.as_slice.ensures.value

pub returns-clause-within : goal.returns-clause-within
returns-clause-within g c = within_there c.args.self.now.bytes.items c.args.self.now.spells
