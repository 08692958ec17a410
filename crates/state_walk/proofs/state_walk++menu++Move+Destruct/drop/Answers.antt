-- What is held has a known size.
use Rattle.std.proofs.Common.{inl, inr, lit≤}
use Rattle.state_walk.proofs.state_walk++menu++Move+Destruct.drop.Goals as goal

pub drop-requires : goal.drop-requires
drop-requires g c = elim g.met.A.AllocHandle.small [ inl e ↦ rw (e.0, e.1) (search (lit≤)) | inr e ↦ rw (e.0, e.1) (search (lit≤)) ]

pub drop-requires-2-room-T-Destruct : goal.drop-requires-2-room-T-Destruct
drop-requires-2-room-T-Destruct g c κs within = elim g.met.A.AllocHandle.small [ inl e ↦ rw (e.0, e.1) (search (lit≤)) | inr e ↦ rw (e.0, e.1) (search (lit≤)) ]
