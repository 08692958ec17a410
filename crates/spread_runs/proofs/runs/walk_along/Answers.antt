-- One step more of the run is spread.
use Rattle.std.proofs.Common.{◌+◌, ◌≤◌, ◌<◌, [], ◌∷◌, ◌++◌, List, Option, IfSome, length, map, take, refl, sym, subst, inl, inr, lit≤, arith}
use Rattle.std.proofs.lemmas.Option.{slice_get_read}
use Rattle.theory_syntax.specs.Value as pure
use Rattle.theory_syntax.specs.Process.{Process}
use Rattle.theory_syntax.proofs.Places.{get_some}
use Rattle.theory_semantics.specs.Kinds.Scripts.{IsTermOf}
use Rattle.theory_search.proofs.Adding.{take_next}
use Rattle.csp_value.specs.Action.{action_of}
use Rattle.csp_term.specs.Script.{script_of}
use Rattle.csp_term.specs.Term.{process_of}
use Rattle.spread_runs.specs.Walk.{GoesTo, GoesToBy, IsAlong}
use Rattle.spread_runs.specs.declared.walk.Walk.{Walk}
use Rattle.spread_runs.proofs.Walking.{along_first, along_more, along_whole, take_at}
use Rattle.spread_runs.proofs.runs.walk_along.Goals as goal

pub taus_to-requires : goal.taus_to-requires
taus_to-requires g c =
    let written = script_of c.args.written.now in
    record { closed = subst (IsTermOf written) (sym c.in_ok-begun.ensures.here) c.requires.closed }

pub loop-place-init : goal.loop-place-init
loop-place-init g c =
    let written = script_of c.args.written.now in
    let t = process_of c.args.start.now in
    let states = c.args.states.now in
    let first = c.index-states-0.result in
    let even = c.requires.even in
    let inside : 0 < length states = omega (arith, even) in
    let stands = get_some process_of states 0 first (slice_get_read states (length states) 0 first refl inside c.index-states-0.is) in
    let O : Option (Walk g.row.A.Denot) → Type 0 = λ o. IfSome o (GoesTo written (process_of first) c.in_ok-begun.begun) in
    along_first g.row.A.Denot written t (process_of first) (map process_of states) c.in_ok-begun.begun c.in-Some.walk c.in_ok-begun.ensures (subst O c.in-Some.is c.in_ok-found.ensures) stands

pub step_to-requires : goal.step_to-requires
step_to-requires g c =
    let closed : IsTermOf (script_of c.args.written.now) (process_of c.loop-place.walk.here) = c.loop-place.invariant.closed in
    elim g.met.A.AllocHandle.small [ inl e ↦ rw (e.0, e.1) (search (lit≤, closed)) | inr e ↦ rw (e.0, e.1) (search (lit≤, closed)) ]

pub loop-place-preserved : goal.loop-place-preserved
loop-place-preserved g c =
    let written = script_of c.args.written.now in
    let t = process_of c.args.start.now in
    let path = c.args.path.now in
    let states = c.args.states.now in
    let i = c.loop-place.place in
    let x = c.index-path-place.result in
    let target = c.index-states-place.result in
    let old = c.loop-place.walk in
    let here = process_of old.here in
    let inside = c.loop-place-test.true in
    let even = c.requires.even in
    let next : i + 1 < length states = omega (arith, inside, even) in
    let stands = get_some process_of states (i + 1) target (slice_get_read states (length states) (i + 1) target refl next c.index-states-place.is) in
    let O : Option (Walk g.row.A.Denot) → Type 0 = λ o. IfSome o (GoesToBy written (action_of x) (process_of target) old) in
    let by = subst O c.in-Some-next.is c.in_ok-next.ensures in
    let more = along_more g.row.A.Denot written t (process_of target) (map action_of (take i path)) (map process_of (take i states)) (map process_of states) i (action_of x) old c.in-Some-next.gone c.loop-place.invariant by stands in
    let P : List pure.Action → Type 0 = λ p. IsAlong written t p (map process_of (take i states) ++ here ∷ []) (map process_of states) (i + 1) c.in-Some-next.gone in
    let S : List Process → Type 0 = λ ss. IsAlong written t (map action_of (take (i + 1) path)) ss (map process_of states) (i + 1) c.in-Some-next.gone in
    subst S (sym (take_at process_of states i here c.loop-place.invariant.stands)) (subst P (sym (take_next action_of path i x inside c.index-path-place.is)) more)

pub returns : goal.returns
returns g c =
    let path = c.args.path.now in
    let states = c.args.states.now in
    let i = c.loop-place.place in
    let past = c.loop-place-test.false in
    let even = c.requires.even in
    along_whole g.row.A.Denot (script_of c.args.written.now) (process_of c.args.start.now) path states i c.loop-place.walk past (omega (arith, past, even)) c.loop-place.invariant
