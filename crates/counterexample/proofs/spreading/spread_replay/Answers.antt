-- The run is told with the evidence of the violation.
use Rattle.std.proofs.Common.{◌≡◌, suc, List, Option, IfSome, length, map, ap, subst, inl, inr, lit<, lit≤, arith}
use Rattle.theory_semantics.specs.Kinds.Scripts.{IsTermOf}
use Rattle.theory_semantics.specs.Meaning.Violations.{Evidence, Violation}
use Rattle.csp_value.specs.Action.{action_of}
use Rattle.csp_value.specs.declared.action.Action.{Action}
use Rattle.csp_term.specs.Script.{script_of}
use Rattle.csp_term.specs.Term.{process_of}
use Rattle.spread_runs.specs.Spread.{SpreadsRun}
use Rattle.spread_runs.specs.declared.runs.SpreadRun.{SpreadRun}
use Rattle.counterexample.proofs.spreading.spread_replay.Goals as goal

pub spread_run-requires : goal.spread_run-requires
spread_run-requires g c =
    let closed : IsTermOf (script_of c.args.written.now) (process_of c.args.start.now) = c.requires.closed in
    let read = ap length c.deref.ensures.value in
    let given = c.requires.even in
    let even : length c.args.states.now ≡ suc (length c.deref.result.now) = omega (arith, read, given) in
    elim g.met.A.AllocHandle.small [ inl e ↦ rw (e.0, e.1) (search (lit≤, closed, even)) | inr e ↦ rw (e.0, e.1) (search (lit≤, closed, even)) ]

pub returns : goal.returns
returns g c =
    let written = script_of c.args.written.now in
    let t = process_of c.args.start.now in
    let states = map process_of c.args.states.now in
    let found = c.in-Some.told in
    let P : List (Action g.row.A.Denot) → Type 0 = λ path. IfSome c.in_ok-found.found (SpreadsRun written t (map action_of path) states) in
    let O : Option (SpreadRun g.row.A.Denot) → Type 0 = λ o. IfSome o (SpreadsRun written t (map action_of c.args.shown.now.path.items) states) in
    let E : Evidence → Violation = λ e. record { path = map action_of found.path.items; evidence = e } in
    record { like = ap E c.in_ok-evidence.ensures; spread = subst O c.in-Some.is (subst P c.deref.ensures.value c.in_ok-found.ensures) }

pub drop-told-requires-room-T-Destruct : goal.drop-told-requires-room-T-Destruct
drop-told-requires-room-T-Destruct g c κs within = elim g.met.A.AllocHandle.small [ inl e ↦ rw (e.0, e.1) (lit< tt) | inr e ↦ rw (e.0, e.1) (lit< tt) ]
