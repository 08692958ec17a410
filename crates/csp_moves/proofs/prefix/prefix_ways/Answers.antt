-- What is lent has a known size.
use Rattle.std.proofs.Common.{inl, inr, lit<}
use Rattle.csp_moves.proofs.prefix.prefix_ways.Goals as goal

pub by_event-requires : goal.by_event-requires
by_event-requires g c = elim g.met.A.AllocHandle.small [ inl e ↦ rw (e.0, e.1) (lit< tt, c.requires) | inr e ↦ rw (e.0, e.1) (lit< tt, c.requires) ]
