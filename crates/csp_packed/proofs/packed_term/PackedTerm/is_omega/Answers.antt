use Rattle.std.proofs.Common.{refl}
use Rattle.csp_packed.proofs.Spelled.{omega_told}
use Rattle.csp_packed.proofs.packed_term.PackedTerm.is_omega.Goals as goal

pub returns : goal.returns
returns g c = omega_told c.args.self.now.bytes.items _ _ _ c.args.self.now.spells c.as_slice.ensures.value refl c.are_same.ensures
