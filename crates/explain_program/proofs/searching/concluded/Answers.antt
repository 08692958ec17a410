-- What the search tells stands in the answer.
use Rattle.std.proofs.Common.{None, inl, inr, lit<, refl}
use Rattle.verdict.specs.Outcome.{outcome_of}
use Rattle.explain_program.specs.Stops.{stop_kept}
use Rattle.explain_program.proofs.Stops.{kept_stop, stop_without_memory, told_stop}
use Rattle.explain_program.proofs.searching.concluded.Goals as goal

pub conclude-found-requires : goal.conclude-found-requires
conclude-found-requires g c =
    elim g.met.A.AllocHandle.small [
      | inl e ↦ rw (e.0, e.1) (lit< tt, c.requires)
      | inr e ↦ rw (e.0, e.1) (lit< tt, c.requires)
    ]

pub returns-in-Ok-clause-stop : goal.returns-in-Ok-clause-stop
returns-in-Ok-clause-stop g c =
    let s = c.args.store.now in
    told_stop s c.conclude-found.ensures.lawful (outcome_of c.conclude-found.result) (stop_kept c.in-Ok.stop) c.conclude-found.ensures.told
    (kept_stop s.search c.in-Ok.stop c.in-Ok.ensures.some c.in-Ok.ensures.none)

pub returns-in-Err-clause-told : goal.returns-in-Err-clause-told
returns-in-Err-clause-told g c = inr refl

pub returns-in-Err-clause-stop : goal.returns-in-Err-clause-stop
returns-in-Err-clause-stop g c = stop_without_memory c.args.store.now c.conclude-found.ensures.lawful None

pub stopped-requires : goal.stopped-requires
stopped-requires g c =
    elim g.met.A.AllocHandle.small [
      | inl e ↦ rw (e.0, e.1) (lit< tt)
      | inr e ↦ rw (e.0, e.1) (lit< tt)
    ]

pub drop-found-requires-room-T-Destruct : goal.drop-found-requires-room-T-Destruct
drop-found-requires-room-T-Destruct g c κs within =
    elim g.met.A.AllocHandle.small [
      | inl e ↦ rw (e.0, e.1) (lit< tt)
      | inr e ↦ rw (e.0, e.1) (lit< tt)
    ]

pub array_drop-found-requires : goal.array_drop-found-requires
array_drop-found-requires g c =
    elim g.met.A.AllocHandle.small [
      | inl e ↦ rw (e.0, e.1) (lit< tt)
      | inr e ↦ rw (e.0, e.1) (lit< tt)
    ]

pub drop-requires-in-Err-2-room-T-Destruct : goal.drop-requires-in-Err-2-room-T-Destruct
drop-requires-in-Err-2-room-T-Destruct g c κs within =
    elim g.met.A.AllocHandle.small [
      | inl e ↦ rw (e.0, e.1) (lit< tt)
      | inr e ↦ rw (e.0, e.1) (lit< tt)
    ]
