-- A run is told, since there is one, or that there are too many states for its loop.
use Rattle.std.proofs.Common.{subst, inl, inr, lit<, lit≤}
use Rattle.csp_term.specs.Script.{assertion_of, script_of}
use Rattle.verdict.specs.Outcome.{violation_of}
use Rattle.counterexample.specs.Counterexample.{TellsReplayed}
use Rattle.counterexample.specs.declared.counterexamples.Replayed.{Replayed}
use Rattle.explanation.proofs.account.replay_account.Goals as goal

pub returns-in_ok-copy-in-Counterexample : goal.returns-in_ok-copy-in-Counterexample
returns-in_ok-copy-in-Counterexample g c =
    let T : Replayed g.row.A.Denot → Type 0 = λ found. TellsReplayed (script_of c.args.script.now) (assertion_of c.args.assertion.now) (violation_of c.args.shown.now) c.args.style.now.most c.args.style.now.reach found in
    (c.in_ok-copy-in-Counterexample.ensures, subst T c.in-Counterexample.is c.in_ok-found.ensures)

pub returns-in-TooMany : goal.returns-in-TooMany
returns-in-TooMany g c =
    let T : Replayed g.row.A.Denot → Type 0 = λ found. TellsReplayed (script_of c.args.script.now) (assertion_of c.args.assertion.now) (violation_of c.args.shown.now) c.args.style.now.most c.args.style.now.reach found in
    subst T c.in-TooMany.is c.in_ok-found.ensures

pub unreachable-requires : goal.unreachable-requires
unreachable-requires g c =
    let T : Replayed g.row.A.Denot → Type 0 = λ found. TellsReplayed (script_of c.args.script.now) (assertion_of c.args.assertion.now) (violation_of c.args.shown.now) c.args.style.now.most c.args.style.now.reach found in
    let none = subst T c.in-Nowhere.is c.in_ok-found.ensures in
    none c.requires.run.0 c.requires.run.1 c.requires.run.2

pub drop-counterexample-requires-in_err-copy-in-Counterexample-room-T-Destruct : goal.drop-counterexample-requires-in_err-copy-in-Counterexample-room-T-Destruct
drop-counterexample-requires-in_err-copy-in-Counterexample-room-T-Destruct g c κs within = elim g.met.A.AllocHandle.small [ inl e ↦ rw (e.0, e.1) (lit< tt) | inr e ↦ rw (e.0, e.1) (lit< tt) ]

pub drop-counterexample-requires-in_err-copy-in-Counterexample-3-room-T-Destruct : goal.drop-counterexample-requires-in_err-copy-in-Counterexample-3-room-T-Destruct
drop-counterexample-requires-in_err-copy-in-Counterexample-3-room-T-Destruct g c κs within = elim g.met.A.AllocHandle.small [ inl e ↦ rw (e.0, e.1) (search (lit≤)) | inr e ↦ rw (e.0, e.1) (search (lit≤)) ]

pub drop-counterexample-requires-in_err-copy-in-Counterexample-4-room-T-Destruct : goal.drop-counterexample-requires-in_err-copy-in-Counterexample-4-room-T-Destruct
drop-counterexample-requires-in_err-copy-in-Counterexample-4-room-T-Destruct g c κs within = elim g.met.A.AllocHandle.small [ inl e ↦ rw (e.0, e.1) (search (lit≤)) | inr e ↦ rw (e.0, e.1) (search (lit≤)) ]

pub drop-counterexample-requires-in_err-copy-in-Counterexample-6-room-T-Destruct : goal.drop-counterexample-requires-in_err-copy-in-Counterexample-6-room-T-Destruct
drop-counterexample-requires-in_err-copy-in-Counterexample-6-room-T-Destruct g c κs within = elim g.met.A.AllocHandle.small [ inl e ↦ rw (e.0, e.1) (lit< tt) | inr e ↦ rw (e.0, e.1) (lit< tt) ]
