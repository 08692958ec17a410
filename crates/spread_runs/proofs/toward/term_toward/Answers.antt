-- The step that is found is one of the term.
use Rattle.std.proofs.Common.{◌≡◌, ℕ, List, Option, Some, IfSome, map, slice_get, subst, inl, inr, lit<, lit≤, arith}
use Rattle.theory_semantics.specs.Kinds.Scripts.{IsTermOf}
use Rattle.csp_fire.specs.declared.form.Step.{Step}
use Rattle.csp_value.specs.Action.{action_of}
use Rattle.csp_term.specs.Script.{script_of}
use Rattle.csp_term.specs.Term.{process_of}
use Rattle.spread_runs.specs.Toward.{action_done}
use Rattle.spread_runs.proofs.Leading.{leads_by, step_inside}
use Rattle.spread_runs.proofs.toward.term_toward.Goals as goal

pub steps_of_term-requires : goal.steps_of_term-requires
steps_of_term-requires g c =
    let closed : IsTermOf (script_of c.args.written.now) (process_of c.args.term.now) = c.requires.closed in
    elim g.met.A.AllocHandle.small [ inl e ↦ rw (e.0, e.1) (search (lit≤, closed)) | inr e ↦ rw (e.0, e.1) (search (lit≤, closed)) ]

pub place_toward-requires : goal.place_toward-requires
place_toward-requires g c = elim g.met.A.AllocHandle.small [ inl e ↦ rw (e.0, e.1) (search (lit≤, lit<)) | inr e ↦ rw (e.0, e.1) (search (lit≤, lit<)) ]

pub index-requires : goal.index-requires
index-requires g c =
    let steps = c.in_ok-steps.steps in
    let x = action_of c.args.action.now in
    let T : List (Step g.row.A.Denot) → Type 0 = λ ss. IfSome c.in_ok-found.found (λ k. slice_get (map action_done ss) k ≡ Some x) in
    let O : Option ℕ → Type 0 = λ o. IfSome o (λ k. slice_get (map action_done steps.items) k ≡ Some x) in
    let by = subst O c.in-Some.is (subst T c.deref.ensures.value c.in_ok-found.ensures) in
    let inside = step_inside g.row.A.Denot steps.items x c.in-Some.place by in
    omega (arith, inside, steps.ok.0)

pub returns : goal.returns
returns g c =
    let steps = c.in_ok-steps.steps in
    let x = action_of c.args.action.now in
    let T : List (Step g.row.A.Denot) → Type 0 = λ ss. IfSome c.in_ok-found.found (λ k. slice_get (map action_done ss) k ≡ Some x) in
    let O : Option ℕ → Type 0 = λ o. IfSome o (λ k. slice_get (map action_done steps.items) k ≡ Some x) in
    let by = subst O c.in-Some.is (subst T c.deref.ensures.value c.in_ok-found.ensures) in
    leads_by g.row.A.Denot steps.items x c.in-Some.place by (script_of c.args.written.now) (process_of c.args.term.now) c.index.result.now c.in_ok-next.next c.requires.closed c.in_ok-steps.ensures c.index.ensures c.in_ok-next.ensures

pub drop-steps-requires-room-T-Destruct : goal.drop-steps-requires-room-T-Destruct
drop-steps-requires-room-T-Destruct g c κs within = elim g.met.A.AllocHandle.small [ inl e ↦ rw (e.0, e.1) (lit< tt) | inr e ↦ rw (e.0, e.1) (lit< tt) ]

pub drop-steps-requires-in_default-room-T-Destruct : goal.drop-steps-requires-in_default-room-T-Destruct
drop-steps-requires-in_default-room-T-Destruct g c κs within = elim g.met.A.AllocHandle.small [ inl e ↦ rw (e.0, e.1) (lit< tt) | inr e ↦ rw (e.0, e.1) (lit< tt) ]

pub drop-steps-requires-in_err-next-room-T-Destruct : goal.drop-steps-requires-in_err-next-room-T-Destruct
drop-steps-requires-in_err-next-room-T-Destruct g c κs within = elim g.met.A.AllocHandle.small [ inl e ↦ rw (e.0, e.1) (lit< tt) | inr e ↦ rw (e.0, e.1) (lit< tt) ]

pub drop-steps-requires-2-room-T-Destruct : goal.drop-steps-requires-2-room-T-Destruct
drop-steps-requires-2-room-T-Destruct g c κs within = elim g.met.A.AllocHandle.small [ inl e ↦ rw (e.0, e.1) (lit< tt) | inr e ↦ rw (e.0, e.1) (lit< tt) ]
