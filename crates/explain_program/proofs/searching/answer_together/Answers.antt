-- What an ended search shows is right, and so is why none was begun.
use denote.Param.Send.{sendable}
use Rattle.std.proofs.Common.{◌≢◌, None, subst, inl, inr, lit<}
use Rattle.theory_search.specs.Answer.{as_written}
use Rattle.theory_search.specs.Outcome.{Bounds, Unknown}
use Rattle.theory_search.specs.Search.{Open}
use Rattle.theory_search.specs.Sound.{IsFor, ScriptSearch}
use Rattle.theory_search.specs.Truth.{IsRight}
use Rattle.csp_term.specs.Script.{assertion_of, script_of}
use Rattle.pair_store.specs.Bounds.{bounds_of}
use Rattle.verdict.specs.Outcome.{outcome_of, why_of}
use Rattle.explore.proofs.Ending.{not_begun_right, of_some, right_for}
use Rattle.explain_program.specs.Sizes.{IsSizeFor}
use Rattle.explain_program.specs.Stops.{stop_kept}
use Rattle.explain_program.proofs.Sizes.{no_size, told_size}
use Rattle.explain_program.proofs.Stops.{not_begun_stop, stop_for}
use Rattle.explain_program.proofs.searching.answer_together.Goals as goal

pub ended_together-requires-send-A : goal.ended_together-requires-send-A
ended_together-requires-send-A g c κs within = let h = c.type_bounds.send-A in search sendable depth 20

pub ended_together-requires-sync-A : goal.ended_together-requires-sync-A
ended_together-requires-sync-A g c κs within = let h = c.type_bounds.sync-A in search sendable depth 20

pub ended_together-requires-sync-R : goal.ended_together-requires-sync-R
ended_together-requires-sync-R g c κs within = let h = c.type_bounds.sync-R in search sendable depth 20

pub ended_together-requires-frees-A-Allocator : goal.ended_together-requires-frees-A-Allocator
ended_together-requires-frees-A-Allocator g c κs within = let h = c.type_bounds.frees-A-Allocator in search sendable depth 20

pub concluded-requires : goal.concluded-requires
concluded-requires g c =
    let ended = of_some (λ (s : ScriptSearch). s.search.verdict ≢ Open) c.in-Ok-Some.field-0 c.in-Ok-Some.store c.in-Ok-Some.field-0-is c.in-Ok-Some.ensures.ended in
    let met = g.met.A.AllocHandle g.world.𝓛 g.world.𝓜 g.world.𝓡 ((λ s x. x), (λ x. x), (λ x. x), λ x. x) in
    elim met.small [
      | inl e ↦ rw (e.0, e.1) (lit< tt, ended)
      | inr e ↦ rw (e.0, e.1) (lit< tt, ended)
    ]

pub returns-in-Ok-Some-clause-right : goal.returns-in-Ok-Some-clause-right
returns-in-Ok-Some-clause-right g c =
    let script = script_of c.args.script.now in
    let a = assertion_of c.args.assertion.now in
    let bounds = bounds_of c.limits-limits.result in
    let found = outcome_of c.concluded.result.found in
    let R : Bounds → Type 0 = λ asked. IsRight script a asked found in
    let same = of_some (IsFor script a bounds) c.in-Ok-Some.field-0 c.in-Ok-Some.store c.in-Ok-Some.field-0-is c.in-Ok-Some.ensures.same in
    subst R c.limits-limits.ensures (right_for script a bounds c.in-Ok-Some.store found same c.concluded.ensures.lawful c.in-Ok-Some.ensures.begun c.concluded.ensures.told)

pub returns-in-Ok-Some-clause-size : goal.returns-in-Ok-Some-clause-size
returns-in-Ok-Some-clause-size g c =
    let script = script_of c.args.script.now in
    let a = assertion_of c.args.assertion.now in
    let bounds = bounds_of c.limits-limits.result in
    let found = outcome_of c.concluded.result.found in
    let S : Bounds → Type 0 = λ asked. IsSizeFor script a asked (as_written a.negated found) c.concluded.result.size in
    let same = of_some (IsFor script a bounds) c.in-Ok-Some.field-0 c.in-Ok-Some.store c.in-Ok-Some.field-0-is c.in-Ok-Some.ensures.same in
    let ended = of_some (λ (s : ScriptSearch). s.search.verdict ≢ Open) c.in-Ok-Some.field-0 c.in-Ok-Some.store c.in-Ok-Some.field-0-is c.in-Ok-Some.ensures.ended in
    subst S c.limits-limits.ensures (told_size script a bounds c.in-Ok-Some.store found c.concluded.result.size same c.concluded.ensures.lawful ended c.concluded.ensures.told c.concluded.ensures.size)

pub returns-in-Ok-None-clause-right : goal.returns-in-Ok-None-clause-right
returns-in-Ok-None-clause-right g c =
    let R : Bounds → Type 0 = λ asked. IsRight (script_of c.args.script.now) (assertion_of c.args.assertion.now) asked (outcome_of c.answer_alone.result.found) in
    subst R c.limits-limits.ensures c.answer_alone.ensures.right

pub returns-in-Ok-None-clause-size : goal.returns-in-Ok-None-clause-size
returns-in-Ok-None-clause-size g c =
    let a = assertion_of c.args.assertion.now in
    let S : Bounds → Type 0 = λ asked. IsSizeFor (script_of c.args.script.now) a asked (as_written a.negated (outcome_of c.answer_alone.result.found)) c.answer_alone.result.size in
    subst S c.limits-limits.ensures c.answer_alone.ensures.size

pub returns-clause-right : goal.returns-clause-right
returns-clause-right g c =
    let script = script_of c.args.script.now in
    let a = assertion_of c.args.assertion.now in
    let R : Bounds → Type 0 = λ asked. IsRight script a asked (Unknown (why_of c.in-Err.why)) in
    subst R c.limits-limits.ensures (not_begun_right script a (bounds_of c.limits-limits.result) (why_of c.in-Err.why) c.in-Err.ensures.why)

pub returns-clause-size : goal.returns-clause-size
returns-clause-size g c =
    let script = script_of c.args.script.now in
    let a = assertion_of c.args.assertion.now in
    let S : Bounds → Type 0 = λ asked. IsSizeFor script a asked (as_written a.negated (Unknown (why_of c.in-Err.why))) None in
    subst S c.limits-limits.ensures (no_size script a (bounds_of c.limits-limits.result) (why_of c.in-Err.why) c.in-Err.ensures.why)

pub returns-in-Ok-Some-clause-stop : goal.returns-in-Ok-Some-clause-stop
returns-in-Ok-Some-clause-stop g c =
    let script = script_of c.args.script.now in
    let a = assertion_of c.args.assertion.now in
    let bounds = bounds_of c.limits-limits.result in
    let same = of_some (IsFor script a bounds) c.in-Ok-Some.field-0 c.in-Ok-Some.store c.in-Ok-Some.field-0-is c.in-Ok-Some.ensures.same in
    stop_for script a bounds c.in-Ok-Some.store (outcome_of c.concluded.result.found) (stop_kept c.concluded.result.stop) same c.concluded.ensures.stop

pub returns-clause-stop : goal.returns-clause-stop
returns-clause-stop g c =
    not_begun_stop (script_of c.args.script.now) (assertion_of c.args.assertion.now) (bounds_of c.limits-limits.result) (why_of c.in-Err.why) c.in-Err.ensures.why

pub drop-store-inside-requires-in-Ok-Some-15-room-T-Destruct : goal.drop-store-inside-requires-in-Ok-Some-15-room-T-Destruct
drop-store-inside-requires-in-Ok-Some-15-room-T-Destruct g c κs within =
    let met = g.met.A.AllocHandle g.world.𝓛 g.world.𝓜 g.world.𝓡 ((λ s x. x), (λ x. x), (λ x. x), λ x. x) in
    elim met.small [
      | inl e ↦ rw (e.0, e.1) (lit< tt)
      | inr e ↦ rw (e.0, e.1) (lit< tt)
    ]

pub drop-store-inside-requires-in-Ok-Some-16-room-T-Destruct : goal.drop-store-inside-requires-in-Ok-Some-16-room-T-Destruct
drop-store-inside-requires-in-Ok-Some-16-room-T-Destruct g c κs within =
    let met = g.met.A.AllocHandle g.world.𝓛 g.world.𝓜 g.world.𝓡 ((λ s x. x), (λ x. x), (λ x. x), λ x. x) in
    elim met.small [
      | inl e ↦ rw (e.0, e.1) (lit< tt)
      | inr e ↦ rw (e.0, e.1) (lit< tt)
    ]

pub drop-store-inside-requires-in-Ok-Some-30-room-T-Destruct : goal.drop-store-inside-requires-in-Ok-Some-30-room-T-Destruct
drop-store-inside-requires-in-Ok-Some-30-room-T-Destruct g c κs within =
    let met = g.met.A.AllocHandle g.world.𝓛 g.world.𝓜 g.world.𝓡 ((λ s x. x), (λ x. x), (λ x. x), λ x. x) in
    elim met.small [
      | inl e ↦ rw (e.0, e.1) (lit< tt)
      | inr e ↦ rw (e.0, e.1) (lit< tt)
    ]
