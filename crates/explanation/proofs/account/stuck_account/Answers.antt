-- A run is found and told, by the script as it is written or as names are read, or none is.
use Rattle.std.proofs.Common.{◌≡◌, Option, Some, IfSome, option_map, refl, subst, inl, inr, lit<}
use Rattle.csp_term.specs.Script.{assertion_of, script_of}
use Rattle.theory_explanation.specs.Faults.{IsFound, IsSpreadSide}
use Rattle.csp_replay.specs.Hindrance.{hindrance_of}
use Rattle.explanation.specs.Sides.{side_run_of}
use Rattle.explanation.specs.declared.sides.SideRun.{SideRun}
use Rattle.explanation.proofs.ToldRuns.{found_even}
use Rattle.explanation.proofs.account.stuck_account.Goals as goal

pub returns-in_default : goal.returns-in_default
returns-in_default g c =
    let h = hindrance_of c.args.hindrance in
    let F : Option (SideRun g.row.A.Denot) → Type 0 = λ found. IsFound (script_of c.args.script.now) (assertion_of c.args.question.now.asked.now) h c.args.style.now.reach (option_map side_run_of found) in
    inr (refl, subst F c.in_default.is c.in_ok-found.ensures)

pub spread_side-requires-clause-even : goal.spread_side-requires-clause-even
spread_side-requires-clause-even g c =
    let script = script_of c.args.script.now in
    let a = assertion_of c.args.question.now.asked.now in
    let h = hindrance_of c.args.hindrance in
    let run = side_run_of c.in-Some.run' in
    let F : Option (SideRun g.row.A.Denot) → Type 0 = λ found. IsFound script a h c.args.style.now.reach (option_map side_run_of found) in
    found_even script a h c.args.style.now.reach run (subst F c.in-Some.is c.in_ok-found.ensures)

pub returns-in-Some-spread : goal.returns-in-Some-spread
returns-in-Some-spread g c =
    let script = script_of c.args.script.now in
    let w = assertion_of c.args.question.now.written.now in
    let a = assertion_of c.args.question.now.asked.now in
    let h = hindrance_of c.args.hindrance in
    let run = side_run_of c.in-Some.run' in
    let told = side_run_of c.in-Some-spread.told in
    let F : Option (SideRun g.row.A.Denot) → Type 0 = λ found. IsFound script a h c.args.style.now.reach (option_map side_run_of found) in
    let is : IsFound script a h c.args.style.now.reach (Some run) = subst F c.in-Some.is c.in_ok-found.ensures in
    let S : Option (SideRun g.row.A.Denot) → Type 0 = λ spread. IfSome spread (λ s. IsSpreadSide script w run (side_run_of s)) in
    let spread : IsSpreadSide script w run told = subst S c.in-Some-spread.is c.in_ok-spread.ensures in
    inl (refl, (run, (is, spread)))

pub returns-in-None : goal.returns-in-None
returns-in-None g c =
    let script = script_of c.args.script.now in
    let a = assertion_of c.args.question.now.asked.now in
    let h = hindrance_of c.args.hindrance in
    let run = side_run_of c.in-Some.run' in
    let F : Option (SideRun g.row.A.Denot) → Type 0 = λ found. IsFound script a h c.args.style.now.reach (option_map side_run_of found) in
    let is : IsFound script a h c.args.style.now.reach (Some run) = subst F c.in-Some.is c.in_ok-found.ensures in
    inr (refl, is)

pub drop-run-requires-in_err-spread-2-room-T-Destruct : goal.drop-run-requires-in_err-spread-2-room-T-Destruct
drop-run-requires-in_err-spread-2-room-T-Destruct g c κs within = elim g.met.A.AllocHandle.small [ inl e ↦ rw (e.0, e.1) (lit< tt) | inr e ↦ rw (e.0, e.1) (lit< tt) ]

pub drop-run-requires-in_err-spread-2-3-room-T-Destruct : goal.drop-run-requires-in_err-spread-2-3-room-T-Destruct
drop-run-requires-in_err-spread-2-3-room-T-Destruct g c κs within = elim g.met.A.AllocHandle.small [ inl e ↦ rw (e.0, e.1) (lit< tt) | inr e ↦ rw (e.0, e.1) (lit< tt) ]

pub drop-run-requires-in-Some-spread-3-room-T-Destruct : goal.drop-run-requires-in-Some-spread-3-room-T-Destruct
drop-run-requires-in-Some-spread-3-room-T-Destruct g c κs within = elim g.met.A.AllocHandle.small [ inl e ↦ rw (e.0, e.1) (lit< tt) | inr e ↦ rw (e.0, e.1) (lit< tt) ]

pub drop-run-requires-in-Some-spread-2-3-room-T-Destruct : goal.drop-run-requires-in-Some-spread-2-3-room-T-Destruct
drop-run-requires-in-Some-spread-2-3-room-T-Destruct g c κs within = elim g.met.A.AllocHandle.small [ inl e ↦ rw (e.0, e.1) (lit< tt) | inr e ↦ rw (e.0, e.1) (lit< tt) ]
