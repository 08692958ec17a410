-- The round is spread, and comes back.
use Rattle.std.proofs.Common.{◌≡◌, ◌<◌, suc, List, Option, IfSome, length, map, replicate, refl, sym, ◌∙◌, ap, subst, inl, inr, lit≤, lit<, arith}
use Rattle.std.proofs.lemmas.List.{length-map, length-replicate}
use Rattle.std.proofs.lemmas.Option.{slice_get_read}
use Rattle.theory_syntax.specs.Value.{Tau}
use Rattle.theory_syntax.proofs.Places.{get_some}
use Rattle.theory_semantics.specs.Kinds.Scripts.{IsTermOf}
use Rattle.csp_value.specs.Action.{action_of}
use Rattle.csp_value.specs.declared.action.Action.{Action}
use Rattle.csp_term.specs.Script.{script_of}
use Rattle.csp_term.specs.Term.{process_of}
use Rattle.csp_term.specs.declared.term.Term.{Term}
use Rattle.spread_runs.specs.Spread.{SpreadsRun}
use Rattle.spread_runs.specs.declared.runs.SpreadRun.{SpreadRun}
use Rattle.spread_runs.proofs.Rounds.{loops_spread, round_length}
use Rattle.spread_runs.proofs.loops.spread_loop.Goals as goal

pub spread_run-requires : goal.spread_run-requires
spread_run-requires g c =
    let states = c.args.states.now in
    let n = length states in
    let first = c.index-states-0.result in
    let back = c.requires.back in
    let inside : 0 < n = omega (arith, back) in
    let stands = get_some process_of states 0 first (slice_get_read states n 0 first refl inside c.index-states-0.is) in
    let closed : IsTermOf (script_of c.args.written.now) (process_of first) = c.requires.closed (process_of first) stands in
    let round = round_length (map process_of states) c.args.back (map process_of c.in_ok-round.round.items) c.in_ok-round.ensures in
    let rounds = length-map c.in_ok-round.round.items process_of in
    let many = length-map states process_of in
    let taus = sym (length-map c.in_ok-path.path.items action_of) ∙ ap length c.in_ok-path.ensures ∙ length-replicate (length states) Tau in
    let lent = ap length c.deref.ensures.value in
    let lent_states = ap length c.deref-2.ensures.value in
    let even : length c.deref-2.result.now ≡ suc (length c.deref.result.now) = omega (arith, round, rounds, many, taus, lent, lent_states) in
    elim g.met.A.AllocHandle.small [ inl e ↦ rw (e.0, e.1) (search (lit≤, lit<, closed, even)) | inr e ↦ rw (e.0, e.1) (search (lit≤, lit<, closed, even)) ]

pub returns : goal.returns
returns g c =
    let written = script_of c.args.written.now in
    let states = c.args.states.now in
    let n = length states in
    let first = c.index-states-0.result in
    let back = c.requires.back in
    let inside : 0 < n = omega (arith, back) in
    let stands = get_some process_of states 0 first (slice_get_read states n 0 first refl inside c.index-states-0.is) in
    let P : List (Action g.row.A.Denot) → Type 0 = λ path. IfSome c.in_ok-found.found (SpreadsRun written (process_of first) (map action_of path) (map process_of c.deref-2.result.now)) in
    let S : List (Term g.row.A.Denot) → Type 0 = λ ss. IfSome c.in_ok-found.found (SpreadsRun written (process_of first) (map action_of c.in_ok-path.path.items) (map process_of ss)) in
    let O : Option (SpreadRun g.row.A.Denot) → Type 0 = λ o. IfSome o (SpreadsRun written (process_of first) (map action_of c.in_ok-path.path.items) (map process_of c.in_ok-round.round.items)) in
    let spread = subst O c.in-Some.is (subst S c.deref-2.ensures.value (subst P c.deref.ensures.value c.in_ok-found.ensures)) in
    let many : length states ≡ length (map process_of states) = sym (length-map states process_of) in
    let taus = c.in_ok-path.ensures ∙ ap (λ k. replicate k Tau) many in
    loops_spread g.row.A.Denot written (map process_of states) c.args.back (map process_of c.in_ok-round.round.items) (process_of first) (map action_of c.in_ok-path.path.items) c.in-Some.spread c.round_of.result c.in_ok-round.ensures stands taus spread
    c.round_of.ensures

pub taus-requires : goal.taus-requires
taus-requires g c = elim g.met.A.AllocHandle.small [ inl e ↦ rw (e.0, e.1) (search (lit≤, lit<)) | inr e ↦ rw (e.0, e.1) (search (lit≤, lit<)) ]

pub drop-path-requires-room-T-Destruct : goal.drop-path-requires-room-T-Destruct
drop-path-requires-room-T-Destruct g c κs within = elim g.met.A.AllocHandle.small [ inl e ↦ rw (e.0, e.1) (lit< tt) | inr e ↦ rw (e.0, e.1) (lit< tt) ]

pub drop-path-requires-in_default-room-T-Destruct : goal.drop-path-requires-in_default-room-T-Destruct
drop-path-requires-in_default-room-T-Destruct g c κs within = elim g.met.A.AllocHandle.small [ inl e ↦ rw (e.0, e.1) (lit< tt) | inr e ↦ rw (e.0, e.1) (lit< tt) ]

pub drop-path-requires-2-room-T-Destruct : goal.drop-path-requires-2-room-T-Destruct
drop-path-requires-2-room-T-Destruct g c κs within = elim g.met.A.AllocHandle.small [ inl e ↦ rw (e.0, e.1) (lit< tt) | inr e ↦ rw (e.0, e.1) (lit< tt) ]
