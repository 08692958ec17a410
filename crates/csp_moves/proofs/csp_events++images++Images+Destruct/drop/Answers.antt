-- What is held has a known size.
use Rattle.std.proofs.Common.{inl, inr, lit<}
use Rattle.csp_moves.proofs.csp_events++images++Images+Destruct.drop.Goals as goal

pub drop-requires-2-room-T-Destruct : goal.drop-requires-2-room-T-Destruct
drop-requires-2-room-T-Destruct g c κs within = elim g.met.A.AllocHandle.small [ inl e ↦ rw (e.0, e.1) (lit< tt) | inr e ↦ rw (e.0, e.1) (lit< tt) ]

pub drop-requires-2-room-T-Destruct-2 : goal.drop-requires-2-room-T-Destruct-2
drop-requires-2-room-T-Destruct-2 g c κs within = elim g.met.A.AllocHandle.small [ inl e ↦ rw (e.0, e.1) (lit< tt) | inr e ↦ rw (e.0, e.1) (lit< tt) ]
