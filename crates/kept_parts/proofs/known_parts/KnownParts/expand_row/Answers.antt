use Rattle.std.proofs.Common.{inl, inr, lit<}
use Rattle.kept_parts.proofs.known_parts.KnownParts.expand_row.Goals as goal

pub drop-form-requires-room-T-Destruct : goal.drop-form-requires-room-T-Destruct
drop-form-requires-room-T-Destruct g c κs within =
    elim g.met.A.AllocHandle.small [
      | inl e ↦ rw (e.0, e.1) (lit< tt)
      | inr e ↦ rw (e.0, e.1) (lit< tt)
    ]

pub drop-form-requires-in_err-term-in-Some-room-T-Destruct : goal.drop-form-requires-in_err-term-in-Some-room-T-Destruct
drop-form-requires-in_err-term-in-Some-room-T-Destruct g c κs within =
    elim g.met.A.AllocHandle.small [
      | inl e ↦ rw (e.0, e.1) (lit< tt)
      | inr e ↦ rw (e.0, e.1) (lit< tt)
    ]
