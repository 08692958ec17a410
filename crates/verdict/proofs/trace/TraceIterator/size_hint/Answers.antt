-- What is held has a known size.
use Rattle.std.proofs.Common.{inl, inr, lit<}
use Rattle.verdict.proofs.trace.TraceIterator.size_hint.Goals as goal

pub size_hint-requires-room-Self-Iterator : goal.size_hint-requires-room-Self-Iterator
size_hint-requires-room-Self-Iterator g c κs within =
    elim g.met.A.AllocHandle.small [
      | inl e ↦ rw (e.0, e.1) (lit< tt)
      | inr e ↦ rw (e.0, e.1) (lit< tt)
    ]
