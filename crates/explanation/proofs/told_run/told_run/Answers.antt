-- The origins along the path of the run.
use Rattle.std.proofs.Common.{◌≡◌, suc, List, length, map, refl, subst, ap, inl, inr, lit≤, lit<, arith}
use Rattle.csp_value.specs.Action.{action_of}
use Rattle.csp_value.specs.declared.action.Action.{Action}
use Rattle.csp_term.specs.Script.{script_of}
use Rattle.csp_term.specs.Term.{process_of}
use Rattle.csp_term.specs.declared.term.Term.{Term}
use Rattle.theory_explanation.specs.Counterexamples.{AreOriginsAlong}
use Rattle.counterexample.specs.Counterexample.{origins_listed}
use Rattle.explanation.proofs.told_run.told_run.Goals as goal

pub origins_along-requires : goal.origins_along-requires
origins_along-requires g c =
    let path = ap length c.deref.ensures.value in
    let states = ap length c.deref-2.ensures.value in
    let long = c.requires in
    let given : length c.deref-2.result.now ≡ suc (length c.deref.result.now) = omega (arith, long, path, states) in
    elim g.met.A.AllocHandle.small [ inl e ↦ rw (e.0, e.1) (search (lit≤, given)) | inr e ↦ rw (e.0, e.1) (search (lit≤, given)) ]

pub returns : goal.returns
returns g c =
    let script = script_of c.args.script.now in
    let run = c.args.run in
    let origins = origins_listed c.in_ok-origins.origins.items in
    let P : List (Action g.row.A.Denot) → Type 0 = λ path. AreOriginsAlong script (map action_of path) (map process_of c.deref-2.result.now) origins in
    let S : List (Term g.row.A.Denot) → Type 0 = λ states. AreOriginsAlong script (map action_of run.path.items) (map process_of states) origins in
    (refl, subst S c.deref-2.ensures.value (subst P c.deref.ensures.value c.in_ok-origins.ensures))

pub drop-run-requires-room-T-Destruct : goal.drop-run-requires-room-T-Destruct
drop-run-requires-room-T-Destruct g c κs within =
    elim g.met.A.AllocHandle.small [
      | inl e ↦ rw (e.0, e.1) (lit< tt)
      | inr e ↦ rw (e.0, e.1) (lit< tt)
    ]
