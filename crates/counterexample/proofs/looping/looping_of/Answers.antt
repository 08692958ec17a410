-- The lasso with the origins of its taus is a loop.
use Rattle.std.proofs.Common.{◌≡◌, ◌<◌, [], ◌∷◌, ◌++◌, List, Option, Some, None, length, map, replicate, slice_get, sym, subst, inl, inr, lit<, lit≤}
use Rattle.theory_syntax.specs.Value.{Tau}
use Rattle.theory_syntax.specs.Process.{Process}
use Rattle.theory_explanation.specs.Counterexamples.{AreOriginsAlong}
use Rattle.csp_term.specs.Script.{script_of}
use Rattle.csp_term.specs.Term.{process_of}
use Rattle.csp_term.specs.declared.term.Term.{Term}
use Rattle.csp_replay.specs.declared.lasso.Lasso.{Lasso}
use Rattle.counterexample.specs.Counterexample.{ComesBack, IsLoopOf, origins_listed}
use Rattle.counterexample.proofs.LoopsOf.{is_loop}
use Rattle.counterexample.proofs.looping.looping_of.Goals as goal

pub returns-in_default : goal.returns-in_default
returns-in_default g c =
    let L : Option (Lasso g.row.A.Denot) → Type 0 = λ l. IsLoopOf (script_of c.args.script.now) l None in
    subst L (sym c.in_default.is) tt

pub origins_round-requires : goal.origins_round-requires
origins_round-requires g c =
    let B : Option (Lasso g.row.A.Denot) → Type 0 = λ l. ComesBack l in
    let back : c.in-Some.lasso.back < length c.in-Some.lasso.states.items = subst B c.in-Some.is c.requires in
    let S : List (Term g.row.A.Denot) → Type 0 = λ ts. c.in-Some.lasso.back < length ts in
    let given : c.in-Some.lasso.back < length c.deref.result.now = subst S (sym c.deref.ensures.value) back in
    elim g.met.A.AllocHandle.small [ inl e ↦ rw (e.0, e.1) (search (lit≤, given)) | inr e ↦ rw (e.0, e.1) (search (lit≤, given)) ]

pub returns : goal.returns
returns g c =
    let script = script_of c.args.script.now in
    let states = c.in-Some.lasso.states in
    let back = c.in-Some.lasso.back in
    let origins = c.in_ok-origins.origins in
    let T : List (Term g.row.A.Denot) → Type 0 = λ ts. (again : Process) → slice_get (map process_of ts) back ≡ Some again → AreOriginsAlong script (replicate (length ts) Tau) (map process_of ts ++ again ∷ []) (origins_listed origins.items) in
    let told = subst T c.deref.ensures.value c.in_ok-origins.ensures in
    let L : Option (Lasso g.row.A.Denot) → Type 0 = λ l. IsLoopOf script l (Some (record { states = states; back = back; origins = origins })) in
    subst L (sym c.in-Some.is) (is_loop g.row.A.Denot script states back origins told)
