-- What one more state can do, and all of it sorted.
use Rattle.std.proofs.Common.{[], List, map, Some, sym, ◌∙◌, ap, subst, arith, inl, inr, lit≤, lit<}
use Rattle.std.proofs.lemmas.List.{length-map}
use Rattle.std.proofs.lemmas.Option.{slice_get-get_or}
use Rattle.theory_syntax.specs.Value as pure
use Rattle.theory_syntax.proofs.Places.{get_some}
use Rattle.theory_semantics.specs.Kinds.Scripts.{IsTermOf}
use Rattle.theory_semantics.proofs.Rising.{Contains-from_stands}
use Rattle.theory_runs.specs.Gathering.{Gathers}
use Rattle.theory_runs.specs.Initials.{IsInitialBy}
use Rattle.theory_runs.proofs.Gathering.{IsOfFirst, gather_none, gather_more, gather_all, gathers_same}
use Rattle.theory_runs.proofs.Initials.{CanDoVisibly, initial_state, initials_told}
use Rattle.csp_value.specs.Action.{action_of}
use Rattle.csp_term.specs.Script.{script_of}
use Rattle.csp_term.specs.Term.{process_of}
use Rattle.csp_fire.specs.declared.form.Step.{Step}
use Rattle.csp_fire.specs.Form.{step_of}
use Rattle.csp_replay.proofs.Sorted.{actions_rise, actions_stay}
use Rattle.csp_replay.proofs.initials.initials_of.Goals as goal

pub loop-state-init : goal.loop-state-init
loop-state-init g c =
    let R = CanDoVisibly (script_of c.args.script.now) in
    let states = map process_of c.args.states.now in
    let P : List pure.Action → Type 0 = λ xs. Gathers [] (IsOfFirst R states 0) xs in
    subst P (sym (ap (map action_of) c.new-initials.ensures.items)) (gather_none R states [])

pub steps_of_term-requires : goal.steps_of_term-requires
steps_of_term-requires g c =
    let states = c.args.states.now in
    let i = c.loop-state.state-index in
    let u = c.state-item.result in
    let at = get_some process_of states i u (slice_get-get_or states i u c.loop-state-test.true ∙ ap Some (sym c.state-item.is)) in
    let closed : IsTermOf (script_of c.args.script.now) (process_of u) = c.requires.closed (process_of u) (Contains-from_stands (map process_of states) (process_of u) (i, at)) in
    elim g.met.A.AllocHandle.small [ inl e ↦ rw (e.0, e.1) (search (lit≤, closed)) | inr e ↦ rw (e.0, e.1) (search (lit≤, closed)) ]

pub loop-state-preserved : goal.loop-state-preserved
loop-state-preserved g c =
    let script = script_of c.args.script.now in
    let states = c.args.states.now in
    let i = c.loop-state.state-index in
    let u = c.state-item.result in
    let at = get_some process_of states i u (slice_get-get_or states i u c.loop-state-test.true ∙ ap Some (sym c.state-item.is)) in
    let now = map action_of c.loop-state.initials.items in
    let more = map action_of c.add_initials.new.initials.items in
    let steps = c.in_ok-steps.steps.items in
    let S : List (Step g.row.A.Denot) → Type 0 = λ ss. Gathers now (IsInitialBy (map step_of ss)) more in
    gather_more (CanDoVisibly script) (map process_of states) [] i now more (process_of u) c.loop-state.invariant at
    (gathers_same (IsInitialBy (map step_of steps)) (CanDoVisibly script (process_of u)) now more (initial_state script (process_of u) (map step_of steps) c.in_ok-steps.ensures) (subst S c.deref.ensures.value c.in_ok-add_initials.ensures))

pub returns : goal.returns
returns g c =
    let script = script_of c.args.script.now in
    let states = map process_of c.args.states.now in
    let given = c.loop-state.initials.items in
    let ordered = c.sort_unstable.new.self.items in
    let after = c.dedup.new.self.items in
    let long = length-map c.args.states.now process_of in
    let past = c.loop-state-test.false in
    initials_told script states (map action_of given) (map action_of after) (gather_all (CanDoVisibly script) states [] c.loop-state.state-index (map action_of given) c.loop-state.invariant (omega (arith, long, past)))
    (actions_stay g.row.A g.A.AllocHandle g.A.AllocHandle-dict g.A.Allocator g.A.Allocator-dict g.A.Clone g.A.Clone-dict given ordered after c.dedup.ensures.filtered c.sort_unstable.ensures.permutation)
    (actions_rise g.row.A g.A.AllocHandle g.A.AllocHandle-dict g.A.Allocator g.A.Allocator-dict g.A.Clone g.A.Clone-dict given ordered after c.dedup.ensures.filtered c.sort_unstable.ensures.sorted)

pub add_initials-requires : goal.add_initials-requires
add_initials-requires g c = elim g.met.A.AllocHandle.small [ inl e ↦ rw (e.0, e.1) (search (lit≤)) | inr e ↦ rw (e.0, e.1) (search (lit≤)) ]

pub drop-steps-requires-room-T-Destruct : goal.drop-steps-requires-room-T-Destruct
drop-steps-requires-room-T-Destruct g c κs within = elim g.met.A.AllocHandle.small [ inl e ↦ rw (e.0, e.1) (lit< tt) | inr e ↦ rw (e.0, e.1) (lit< tt) ]

pub drop-steps-requires-in-loop-state-room-T-Destruct : goal.drop-steps-requires-in-loop-state-room-T-Destruct
drop-steps-requires-in-loop-state-room-T-Destruct g c κs within = elim g.met.A.AllocHandle.small [ inl e ↦ rw (e.0, e.1) (lit< tt) | inr e ↦ rw (e.0, e.1) (lit< tt) ]
