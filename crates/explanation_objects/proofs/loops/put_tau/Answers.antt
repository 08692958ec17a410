-- What is held has a known size.
use Rattle.std.proofs.Common.{inl, inr, lit<, lit≤}
use Rattle.explanation_objects.proofs.loops.put_tau.Goals as goal

pub put_step-requires : goal.put_step-requires
put_step-requires g c = elim g.met.A.AllocHandle.small [ inl e ↦ rw (e.0, e.1) (search (lit≤, lit<)) | inr e ↦ rw (e.0, e.1) (search (lit≤, lit<)) ]

pub array_drop-tau-requires : goal.array_drop-tau-requires
array_drop-tau-requires g c = elim g.met.A.AllocHandle.small [ inl e ↦ rw (e.0, e.1) (lit< tt) | inr e ↦ rw (e.0, e.1) (lit< tt) ]
