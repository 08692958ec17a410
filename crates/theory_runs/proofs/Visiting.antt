-- The states on the way of a path.
use Rattle.std.proofs.Common.{◌≡◌, zero, suc, List, [], ◌∷◌, slice_get, Some, take, sym, ◌∙◌, ap, subst}
use Rattle.theory_syntax.specs.Value.{Action}
use Rattle.theory_syntax.specs.Process.{Process, Traces, Failures, Property, RefinementOf, DeadlockFree, DivergenceFree, Assertion, Script}
use Rattle.theory_syntax.proofs.Places.{get_only}
use Rattle.theory_semantics.specs.Meaning.Transitions.{Step}
use Rattle.theory_semantics.specs.Meaning.Runs.{Run}
use Rattle.theory_semantics.specs.Meaning.Violations.{Evidence, ByEvent, ByOffers, ByDeadlock, ByDivergence, Violation, IsViolation, IsEvidence}
use Rattle.theory_runs.specs.States.{Visits, Shows, AreReached, AreStepByStep, HasEnd, EndsAreMet}

pub first_state : (script : Script) (path : List Action) (t u : Process) (states : List Process) → Visits script t path states u → slice_get states 0 ≡ Some t
first_state script [] t u states visits = ap (λ ss. slice_get ss 0) visits.0
first_state script (x ∷ path) t u states visits = ap (λ ss. slice_get ss 0) visits.2

pub reached : (script : Script) (path : List Action) (t u : Process) (states : List Process) → Visits script t path states u → AreReached script t path states
reached script [] t u states visits i v at =
    let only = get_only t v i (sym (ap (λ ss. slice_get ss i) visits.0) ∙ at) in
    subst (λ k. Run script t (take k []) v) (sym only.0) (sym only.1)
reached script (x ∷ path) t u states visits zero v at =
    let f : Some t ≡ Some v = sym (ap (λ ss. slice_get ss 0) visits.2) ∙ at in cc f
reached script (x ∷ path) t u states visits (suc i) v at =
    (visits.0, visits.3, reached script path visits.0 u visits.1 visits.4 i v (sym (ap (λ ss. slice_get ss (suc i)) visits.2) ∙ at))

-- the path leads to its end
pub run_of : (script : Script) (path : List Action) (t u : Process) (states : List Process) → Visits script t path states u → Run script t path u
run_of script [] t u states visits = visits.1
run_of script (x ∷ path) t u states visits = (visits.0, visits.3, run_of script path visits.0 u visits.1 visits.4)

pub step_by_step : (script : Script) (path : List Action) (t u : Process) (states : List Process) → Visits script t path states u → AreStepByStep script path states
step_by_step script [] t u states visits i x at = absurd (cc at)
step_by_step script (y ∷ path) t u states visits zero x at =
    let f : Some y ≡ Some x = at in
    let second = ap (λ ss. slice_get ss 1) visits.2 ∙ first_state script path visits.0 u visits.1 visits.4 in
    (t, visits.0, ap (λ ss. slice_get ss 0) visits.2, second, subst (λ z. Step script t z visits.0) (cc f) visits.3)
step_by_step script (y ∷ path) t u states visits (suc i) x at =
    let h = step_by_step script path visits.0 u visits.1 visits.4 i x at in
    (h.0, h.1, ap (λ ss. slice_get ss (suc i)) visits.2 ∙ h.2, ap (λ ss. slice_get ss (suc (suc i))) visits.2 ∙ h.3, h.4)

-- ---- the evidence

shows_by : (script : Script) (property : Property) (path : List Action) (t : Process) (e : Evidence) → IsEvidence script property path t e → Shows script t e
shows_by script (RefinementOf Traces spec) path t (ByEvent x) h = h.1
shows_by script (RefinementOf Failures spec) path t (ByEvent x) h = h.1
shows_by script (RefinementOf Traces spec) path t (ByOffers xs) h = absurd h
shows_by script (RefinementOf Failures spec) path t (ByOffers xs) h = h.0
shows_by script (RefinementOf Traces spec) path t ByDeadlock h = absurd h
shows_by script (RefinementOf Failures spec) path t ByDeadlock h = absurd h
shows_by script DeadlockFree path t (ByEvent x) h = absurd h
shows_by script DeadlockFree path t (ByOffers xs) h = absurd h
shows_by script DeadlockFree path t ByDeadlock h = h
shows_by script DivergenceFree path t (ByEvent x) h = absurd h
shows_by script DivergenceFree path t (ByOffers xs) h = absurd h
shows_by script DivergenceFree path t ByDeadlock h = absurd h
shows_by script (RefinementOf Traces spec) path t ByDivergence h = absurd h
shows_by script (RefinementOf Failures spec) path t ByDivergence h = absurd h
shows_by script DeadlockFree path t ByDivergence h = absurd h
shows_by script DivergenceFree path t ByDivergence h = h

meets_by : (script : Script) (property : Property) (path : List Action) (t u : Process) (e : Evidence) → IsEvidence script property path t e → Shows script u e → IsEvidence script property path u e
meets_by script (RefinementOf Traces spec) path t u (ByEvent x) h shows = (h.0, shows, h.2)
meets_by script (RefinementOf Failures spec) path t u (ByEvent x) h shows = (h.0, shows, h.2)
meets_by script (RefinementOf Traces spec) path t u (ByOffers xs) h shows = absurd h
meets_by script (RefinementOf Failures spec) path t u (ByOffers xs) h shows = (shows, h.1)
meets_by script (RefinementOf Traces spec) path t u ByDeadlock h shows = absurd h
meets_by script (RefinementOf Failures spec) path t u ByDeadlock h shows = absurd h
meets_by script DeadlockFree path t u (ByEvent x) h shows = absurd h
meets_by script DeadlockFree path t u (ByOffers xs) h shows = absurd h
meets_by script DeadlockFree path t u ByDeadlock h shows = shows
meets_by script DivergenceFree path t u (ByEvent x) h shows = absurd h
meets_by script DivergenceFree path t u (ByOffers xs) h shows = absurd h
meets_by script DivergenceFree path t u ByDeadlock h shows = absurd h
meets_by script (RefinementOf Traces spec) path t u ByDivergence h shows = absurd h
meets_by script (RefinementOf Failures spec) path t u ByDivergence h shows = absurd h
meets_by script DeadlockFree path t u ByDivergence h shows = absurd h
meets_by script DivergenceFree path t u ByDivergence h shows = shows

pub has_end : (script : Script) (a : Assertion) (v : Violation) → IsViolation script a v → HasEnd script a.implementation v
has_end script a v is = (is.end, is.run, shows_by script a.property v.path is.end v.evidence is.evidence)

pub ends_met : (script : Script) (a : Assertion) (v : Violation) → IsViolation script a v → EndsAreMet script a v
ends_met script a v is u shows = meets_by script a.property v.path is.end u v.evidence is.evidence shows
