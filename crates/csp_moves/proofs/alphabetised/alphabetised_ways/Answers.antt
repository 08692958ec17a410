-- The events of both sets are shared, and each side does alone those of its own set only.
use Rattle.std.proofs.Common.{inl, inr, lit<}
use Rattle.csp_events.specs.Events.{event_set_of}
use Rattle.csp_events.specs.Testing.{test_of}
use Rattle.csp_term.specs.Script.{script_of_parts}
use Rattle.csp_term.specs.Term.{process_of}
use Rattle.csp_moves.specs.Way.{lent_action}
use Rattle.csp_moves.proofs.Parallel.{alphabetised_found, alphabetised_none_left, alphabetised_none_right}
use Rattle.csp_moves.proofs.alphabetised.alphabetised_ways.Goals as goal

pub returns-in_default : goal.returns-in_default
returns-in_default g c =
    let none = rw c.in_default.is at c.in_ok-first.ensures in
    alphabetised_none_left (script_of_parts c.args.script.now) (process_of c.args.process.left.now) (process_of c.args.process.right.now) (process_of c.args.target.now) (lent_action c.args.action)
    c.no_ways.result (event_set_of c.args.process.own.now) (event_set_of c.args.process.other.now) none.0 none.1 c.no_ways.ensures

pub returns-in_default-second : goal.returns-in_default-second
returns-in_default-second g c =
    let none = rw c.in_default-second.is at c.in_ok-second.ensures in
    alphabetised_none_right (script_of_parts c.args.script.now) (process_of c.args.process.left.now) (process_of c.args.process.right.now) (process_of c.args.target.now) (lent_action c.args.action)
    c.no_ways-in_default-second.result (event_set_of c.args.process.own.now) (event_set_of c.args.process.other.now) none.0 none.1 c.no_ways-in_default-second.ensures

pub returns : goal.returns
returns g c =
    let first = rw c.in-Some.is at c.in_ok-first.ensures in
    let second = rw c.in-Some-second.is at c.in_ok-second.ensures in
    alphabetised_found (script_of_parts c.args.script.now) (process_of c.args.process.left.now) (process_of c.args.process.right.now) (process_of c.args.target.now) (lent_action c.args.action)
    c.parallel_ways.result c.freedom_of-freedom.result (event_set_of c.args.process.own.now) (event_set_of c.args.process.other.now) (test_of c.in-Some.own) (test_of c.in-Some-second.other)
    first.0 second.0 c.freedom_of-freedom.ensures c.parallel_ways.ensures

pub drop-own-requires-room-T-Destruct : goal.drop-own-requires-room-T-Destruct
drop-own-requires-room-T-Destruct g c κs within = elim g.met.A.AllocHandle.small [ inl e ↦ rw (e.0, e.1) (lit< tt) | inr e ↦ rw (e.0, e.1) (lit< tt) ]

pub drop-own-requires-in_err-second-2-room-T-Destruct : goal.drop-own-requires-in_err-second-2-room-T-Destruct
drop-own-requires-in_err-second-2-room-T-Destruct g c κs within = elim g.met.A.AllocHandle.small [ inl e ↦ rw (e.0, e.1) (lit< tt) | inr e ↦ rw (e.0, e.1) (lit< tt) ]

pub drop-own-requires-in_default-second-room-T-Destruct : goal.drop-own-requires-in_default-second-room-T-Destruct
drop-own-requires-in_default-second-room-T-Destruct g c κs within = elim g.met.A.AllocHandle.small [ inl e ↦ rw (e.0, e.1) (lit< tt) | inr e ↦ rw (e.0, e.1) (lit< tt) ]

pub drop-own-requires-in_default-second-2-room-T-Destruct : goal.drop-own-requires-in_default-second-2-room-T-Destruct
drop-own-requires-in_default-second-2-room-T-Destruct g c κs within = elim g.met.A.AllocHandle.small [ inl e ↦ rw (e.0, e.1) (lit< tt) | inr e ↦ rw (e.0, e.1) (lit< tt) ]
