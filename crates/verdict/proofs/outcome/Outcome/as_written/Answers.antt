-- What is held has a known size.
use Rattle.std.proofs.Common.{inl, inr, lit<, lit≤}
use Rattle.verdict.proofs.outcome.Outcome.as_written.Goals as goal

pub drop-self-requires-room-T-Destruct : goal.drop-self-requires-room-T-Destruct
drop-self-requires-room-T-Destruct g c κs within =
    elim g.met.A.AllocHandle.small [
      | inl e ↦ rw (e.0, e.1) (lit< tt)
      | inr e ↦ rw (e.0, e.1) (lit< tt)
    ]

pub array_drop-self-requires : goal.array_drop-self-requires
array_drop-self-requires g c =
    elim g.met.A.AllocHandle.small [
      | inl e ↦ rw (e.0, e.1) (lit≤ tt)
      | inr e ↦ rw (e.0, e.1) (lit≤ tt)
    ]

pub drop-requires-then-negated-2-room-T-Destruct : goal.drop-requires-then-negated-2-room-T-Destruct
drop-requires-then-negated-2-room-T-Destruct g c κs within =
    elim g.met.A.AllocHandle.small [
      | inl e ↦ rw (e.0, e.1) (lit< tt)
      | inr e ↦ rw (e.0, e.1) (lit< tt)
    ]
