-- What is held has a known size.
use Rattle.std.proofs.Common.{inl, inr, lit<}
use Rattle.explain_program.proofs.csp_moves++passage++Passage+Destruct.drop.Goals as goal

pub drop-requires : goal.drop-requires
drop-requires g c = elim g.met.A.AllocHandle.small [ inl e ↦ rw (e.0, e.1) (lit< tt) | inr e ↦ rw (e.0, e.1) (lit< tt) ]

pub drop-requires-2 : goal.drop-requires-2
drop-requires-2 g c = elim g.met.A.AllocHandle.small [ inl e ↦ rw (e.0, e.1) (lit< tt) | inr e ↦ rw (e.0, e.1) (lit< tt) ]

pub drop-requires-2-2 : goal.drop-requires-2-2
drop-requires-2-2 g c = elim g.met.A.AllocHandle.small [ inl e ↦ rw (e.0, e.1) (lit< tt) | inr e ↦ rw (e.0, e.1) (lit< tt) ]
