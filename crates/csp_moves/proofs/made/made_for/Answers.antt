-- All three.
use Rattle.std.proofs.Common.{◌∙◌, inl, inr, lit<}
use Rattle.csp_term.proofs.Forms.{of_omega_term}
use Rattle.csp_moves.proofs.made.made_for.Goals as goal

pub returns : goal.returns
returns g c = record { ended = c.in_ok-ended.ensures ∙ of_omega_term g.row.A.Denot; events = c.in_ok-events.ensures; chain = c.in_ok-chain.ensures }

pub events_of_step-requires : goal.events_of_step-requires
events_of_step-requires g c = elim g.met.A.AllocHandle.small [ inl e ↦ rw (e.0, e.1) (lit< tt) | inr e ↦ rw (e.0, e.1) (lit< tt) ]

pub drop-events-requires-room-T-Destruct : goal.drop-events-requires-room-T-Destruct
drop-events-requires-room-T-Destruct g c κs within = elim g.met.A.AllocHandle.small [ inl e ↦ rw (e.0, e.1) (lit< tt) | inr e ↦ rw (e.0, e.1) (lit< tt) ]
