use Rattle.std.proofs.Common.{inl, inr, lit<}
use Rattle.csp_events.specs.Events.{event_set_of}
use Rattle.csp_term.specs.Script.{script_of_parts}
use Rattle.csp_events.specs.Testing.{test_of}
use Rattle.csp_numbers.proofs.OperatorsByNumbers.{hidden_frame}
use Rattle.csp_numbers.proofs.frames.hidden.Goals as goal

pub drop-test-requires-room-T-Destruct : goal.drop-test-requires-room-T-Destruct
drop-test-requires-room-T-Destruct g c κs within = elim g.met.A.AllocHandle.small [ inl e ↦ rw (e.0, e.1) (lit< tt) | inr e ↦ rw (e.0, e.1) (lit< tt) ]

pub drop-test-requires-in_err-bits_of-2-room-T-Destruct : goal.drop-test-requires-in_err-bits_of-2-room-T-Destruct
drop-test-requires-in_err-bits_of-2-room-T-Destruct g c κs within = elim g.met.A.AllocHandle.small [ inl e ↦ rw (e.0, e.1) (lit< tt) | inr e ↦ rw (e.0, e.1) (lit< tt) ]

pub drop-test-requires-in_ok-bits_of-room-T-Destruct : goal.drop-test-requires-in_ok-bits_of-room-T-Destruct
drop-test-requires-in_ok-bits_of-room-T-Destruct g c κs within = elim g.met.A.AllocHandle.small [ inl e ↦ rw (e.0, e.1) (lit< tt) | inr e ↦ rw (e.0, e.1) (lit< tt) ]

pub drop-test-requires-in_ok-bits_of-2-room-T-Destruct : goal.drop-test-requires-in_ok-bits_of-2-room-T-Destruct
drop-test-requires-in_ok-bits_of-2-room-T-Destruct g c κs within = elim g.met.A.AllocHandle.small [ inl e ↦ rw (e.0, e.1) (lit< tt) | inr e ↦ rw (e.0, e.1) (lit< tt) ]

pub returns : goal.returns
returns g c = hidden_frame c.args.alphabet.now (script_of_parts c.args.script.now) (event_set_of c.args.set.now) (test_of c.in_ok-test.test) c.in_ok-bits_of.field-0 c.in_ok-test.ensures.0 c.in_ok-bits_of.ensures
