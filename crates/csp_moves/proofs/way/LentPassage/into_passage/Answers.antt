-- What is copied has a known size.
use Rattle.std.proofs.Common.{inl, inr, lit<}
use Rattle.csp_moves.proofs.way.LentPassage.into_passage.Goals as goal

pub try_copy-requires : goal.try_copy-requires
try_copy-requires g c = elim g.met.A.AllocHandle.small [ inl e ↦ rw (e.0, e.1) (lit< tt) | inr e ↦ rw (e.0, e.1) (lit< tt) ]

pub try_copy-requires-in-Renames : goal.try_copy-requires-in-Renames
try_copy-requires-in-Renames g c = elim g.met.A.AllocHandle.small [ inl e ↦ rw (e.0, e.1) (lit< tt) | inr e ↦ rw (e.0, e.1) (lit< tt) ]

pub try_copy-requires-in-Renames-2 : goal.try_copy-requires-in-Renames-2
try_copy-requires-in-Renames-2 g c = elim g.met.A.AllocHandle.small [ inl e ↦ rw (e.0, e.1) (lit< tt) | inr e ↦ rw (e.0, e.1) (lit< tt) ]

pub array_drop-from-requires : goal.array_drop-from-requires
array_drop-from-requires g c = elim g.met.A.AllocHandle.small [ inl e ↦ rw (e.0, e.1) (lit< tt) | inr e ↦ rw (e.0, e.1) (lit< tt) ]
