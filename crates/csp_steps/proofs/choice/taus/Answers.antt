-- There is room for what is dropped, however small the allocator's handle is.
use Rattle.std.proofs.Common.{inl, inr, lit<}
use Rattle.csp_steps.proofs.choice.taus.Goals as goal

pub one_step-requires : goal.one_step-requires
one_step-requires g c = elim g.met.A.AllocHandle.small [ inl e ↦ rw (e.0, e.1) (lit< tt, lit< tt) | inr e ↦ rw (e.0, e.1) (lit< tt, lit< tt) ]

pub add_step-requires : goal.add_step-requires
add_step-requires g c = elim g.met.A.AllocHandle.small [ inl e ↦ rw (e.0, e.1) (lit< tt, lit< tt) | inr e ↦ rw (e.0, e.1) (lit< tt, lit< tt) ]

pub drop-steps-requires-room-T-Destruct : goal.drop-steps-requires-room-T-Destruct
drop-steps-requires-room-T-Destruct g c κs within = elim g.met.A.AllocHandle.small [ inl e ↦ rw (e.0, e.1) (lit< tt) | inr e ↦ rw (e.0, e.1) (lit< tt) ]
