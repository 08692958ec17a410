use Rattle.std.proofs.Common.{Option, subst}
use Rattle.std.specs.Prelude.{IfSome}
use Rattle.csp_packed.specs.Packed.{packed_process}
use Rattle.kept_parts.specs.declared.kept_shapes.EarlierRow.{EarlierRow}
use Rattle.kept_parts.specs.Known.{IsEarlierRowOf, earlier_at}
use Rattle.kept_parts.proofs.Keeping.{row_in_last}
use Rattle.kept_parts.proofs.known_parts.KnownParts.look_up.Goals as goal

pub returns-in-Some-2-clause-row : goal.returns-in-Some-2-clause-row
returns-in-Some-2-clause-row g c =
    let old = c.args.self.now in
    let t = packed_process c.args.term.now in
    let P : Option (EarlierRow g.row.A.Denot) → Type 0 = λ o. IfSome o (IsEarlierRowOf old t) in
    let found = subst P c.in-Some-2.is c.in_ok-found.ensures in
    row_in_last old c.turn_to.new.self (earlier_at old.earlier.items c.in-Some-2.found.place) t c.in-Some-2.found.row c.turn_to.ensures.parts c.turn_to.ensures.last found.1
