-- The room for what is passed on.
use Rattle.std.proofs.Common.{inl, inr, lit<}
use Rattle.csp_steps.proofs.hiding.step.Goals as goal

pub under-requires : goal.under-requires
under-requires g c = elim g.met.A.AllocHandle.small [ inl e ↦ rw (e.0, e.1) (lit< tt, lit< tt) | inr e ↦ rw (e.0, e.1) (lit< tt, lit< tt) ]

pub hidden_event-requires : goal.hidden_event-requires
hidden_event-requires g c = elim g.met.A.AllocHandle.small [ inl e ↦ rw (e.0, e.1) (lit< tt, (lit< tt, c.requires)) | inr e ↦ rw (e.0, e.1) (lit< tt, (lit< tt, c.requires)) ]

pub under-requires-in-Event : goal.under-requires-in-Event
under-requires-in-Event g c = elim g.met.A.AllocHandle.small [ inl e ↦ rw (e.0, e.1) (lit< tt, lit< tt) | inr e ↦ rw (e.0, e.1) (lit< tt, lit< tt) ]
