-- What an ended search shows is right, and so is why none was begun.
use Rattle.std.proofs.Common.{inl, inr, lit<}
use Rattle.csp_term.specs.Script.{assertion_of, script_of}
use Rattle.pair_store.specs.Bounds.{bounds_of}
use Rattle.verdict.specs.Outcome.{outcome_of, why_of}
use Rattle.explore.proofs.Ending.{not_begun_right, right_for}
use Rattle.explain_program.specs.Stops.{stop_kept}
use Rattle.explain_program.proofs.Sizes.{no_size, told_size}
use Rattle.explain_program.proofs.Stops.{not_begun_stop, stop_for}
use Rattle.explain_program.proofs.searching.answer_alone.Goals as goal

pub concluded-requires : goal.concluded-requires
concluded-requires g c =
    elim g.met.A.AllocHandle.small [
      | inl e ↦ rw (e.0, e.1) (lit< tt, c.in-Ok.ensures.ended)
      | inr e ↦ rw (e.0, e.1) (lit< tt, c.in-Ok.ensures.ended)
    ]

pub returns-in-Ok-clause-right : goal.returns-in-Ok-clause-right
returns-in-Ok-clause-right g c =
    right_for (script_of c.args.script.now) (assertion_of c.args.assertion.now) (bounds_of c.args.limits) c.in-Ok.store (outcome_of c.concluded.result.found) c.in-Ok.ensures.same c.concluded.ensures.lawful
    c.in-Ok.ensures.begun c.concluded.ensures.told

pub returns-in-Ok-clause-size : goal.returns-in-Ok-clause-size
returns-in-Ok-clause-size g c =
    told_size (script_of c.args.script.now) (assertion_of c.args.assertion.now) (bounds_of c.args.limits) c.in-Ok.store (outcome_of c.concluded.result.found) c.concluded.result.size c.in-Ok.ensures.same
    c.concluded.ensures.lawful c.in-Ok.ensures.ended c.concluded.ensures.told c.concluded.ensures.size

pub returns-in-Err-clause-right : goal.returns-in-Err-clause-right
returns-in-Err-clause-right g c = not_begun_right (script_of c.args.script.now) (assertion_of c.args.assertion.now) (bounds_of c.args.limits) (why_of c.in-Err.why) c.in-Err.ensures.why

pub returns-in-Err-clause-size : goal.returns-in-Err-clause-size
returns-in-Err-clause-size g c = no_size (script_of c.args.script.now) (assertion_of c.args.assertion.now) (bounds_of c.args.limits) (why_of c.in-Err.why) c.in-Err.ensures.why

pub returns-in-Ok-clause-stop : goal.returns-in-Ok-clause-stop
returns-in-Ok-clause-stop g c =
    stop_for (script_of c.args.script.now) (assertion_of c.args.assertion.now) (bounds_of c.args.limits) c.in-Ok.store (outcome_of c.concluded.result.found) (stop_kept c.concluded.result.stop) c.in-Ok.ensures.same
    c.concluded.ensures.stop

pub returns-in-Err-clause-stop : goal.returns-in-Err-clause-stop
returns-in-Err-clause-stop g c = not_begun_stop (script_of c.args.script.now) (assertion_of c.args.assertion.now) (bounds_of c.args.limits) (why_of c.in-Err.why) c.in-Err.ensures.why

pub drop-store-inside-requires-in-Ok-15-room-T-Destruct : goal.drop-store-inside-requires-in-Ok-15-room-T-Destruct
drop-store-inside-requires-in-Ok-15-room-T-Destruct g c κs within =
    elim g.met.A.AllocHandle.small [
      | inl e ↦ rw (e.0, e.1) (lit< tt)
      | inr e ↦ rw (e.0, e.1) (lit< tt)
    ]

pub drop-store-inside-requires-in-Ok-16-room-T-Destruct : goal.drop-store-inside-requires-in-Ok-16-room-T-Destruct
drop-store-inside-requires-in-Ok-16-room-T-Destruct g c κs within =
    elim g.met.A.AllocHandle.small [
      | inl e ↦ rw (e.0, e.1) (lit< tt)
      | inr e ↦ rw (e.0, e.1) (lit< tt)
    ]

pub drop-store-inside-requires-in-Ok-30-room-T-Destruct : goal.drop-store-inside-requires-in-Ok-30-room-T-Destruct
drop-store-inside-requires-in-Ok-30-room-T-Destruct g c κs within =
    elim g.met.A.AllocHandle.small [
      | inl e ↦ rw (e.0, e.1) (lit< tt)
      | inr e ↦ rw (e.0, e.1) (lit< tt)
    ]
