use Rattle.std.proofs.Common.{inl, inr, lit≤}
use Rattle.counterexample.proofs.story.push_story.Goals as goal

pub push_events-requires : goal.push_events-requires
push_events-requires g c = elim g.met.A.AllocHandle.small [ inl e ↦ rw (e.0, e.1) (search (lit≤)) | inr e ↦ rw (e.0, e.1) (search (lit≤)) ]
