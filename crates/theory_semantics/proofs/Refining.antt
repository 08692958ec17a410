-- An assertion holds exactly where nothing at the end of a path is lacking.
use Rattle.std.proofs.Common.{◌≡◌, IsTrue, IsFalse, List, [], ◌∷◌, ◌++◌, refl, sym, ◌∙◌, ap, subst, append-nil}
use Rattle.std.proofs.lemmas.Bool.{not-false, not_from_true}
use Rattle.theory_syntax.specs.Value.{Action, Tau, Tick, Ev, has_action}
use Rattle.theory_syntax.specs.Process.{Process, Model, Traces, Failures, Property, RefinementOf, DeadlockFree, DivergenceFree, Assertion, Script}
use Rattle.theory_semantics.specs.Meaning.Transitions.{Step}
use Rattle.theory_semantics.specs.Meaning.Runs.{Run, trace, IsTrace}
use Rattle.theory_semantics.specs.Meaning.Offers.{IsAcceptance, Refusal, AllBut, in_refusal, Refuses, IsFailure}
use Rattle.theory_semantics.specs.Meaning.Refinement.{TracesRefinement, Refines}
use Rattle.theory_semantics.specs.Meaning.Properties.{HasProperty, HoldsPlainly}
use Rattle.theory_semantics.specs.Meaning.Violations.{Evidence, ByEvent, ByOffers, ByDeadlock, ByDivergence, Violation, IsEvidence, IsViolation, OffersAllowed, IsAllowedBy}
use Rattle.theory_semantics.specs.Laws.Statements.{AllAllowed, IsAllowedThroughout}
use Rattle.theory_semantics.proofs.Running.{trace-append, Run-snoc, snoc_trace, empty_trace}

-- what refuses all but xs refuses whatever has nothing in xs
pub refuses_less : (script : Script) (v : Process) (xs : List Action) (refusal : Refusal) →
    ((x : Action) → IsTrue (has_action xs x) → IsFalse (in_refusal refusal x)) → Refuses script v (AllBut xs) → Refuses script v refusal
refuses_less script v xs refusal disjoint r = (r.0, r.1, λ x here. disjoint x (not-false (has_action xs x) (r.2 x here)))

-- what has the acceptance xs refuses all but xs
pub refuses_rest : (script : Script) (t : Process) (xs : List Action) → IsAcceptance script t xs → Refuses script t (AllBut xs)
refuses_rest script t xs a = (xs, a, λ x here. not_from_true (has_action xs x) here)

append_step : (p : List Action) (x : Action) (q : List Action) → (p ++ x ∷ []) ++ q ≡ p ++ x ∷ q
append_step [] x q = refl
append_step (y ∷ p) x q = ap (λ z. y ∷ z) (append_step p x q)

-- refinement by one specification in one model
module _ (script : Script) (model : Model) (spec impl : Process) where
  abbrev Allowed : Type 0
  Allowed = AllAllowed script (RefinementOf model spec) impl

  -- each step of a path whose trace is known leads to one whose trace is known
  step_known : Allowed → (p : List Action) (x : Action) (t u : Process) → Run script impl p t → IsTrace script spec (trace p) → Step script t x u → IsTrace script spec (trace (p ++ x ∷ []))
  step_known allowed p Tau t u run known step = let P : List Action → Type 0 = IsTrace script spec in subst P (sym (trace-append p (Tau ∷ []) ∙ append-nil (trace p))) known
  step_known allowed p Tick t u run known step = let P : List Action → Type 0 = IsTrace script spec in subst P (sym (snoc_trace p Tick tt)) ((allowed p t run known).events Tick tt (u, step))
  step_known allowed p (Ev e) t u run known step = let P : List Action → Type 0 = IsTrace script spec in subst P (sym (snoc_trace p (Ev e) tt)) ((allowed p t run known).events (Ev e) tt (u, step))

  run_known : Allowed → (q p : List Action) (t u : Process) → Run script impl p t → IsTrace script spec (trace p) → Run script t q u → IsTrace script spec (trace (p ++ q))
  run_known allowed [] p t u run known rest = let P : List Action → Type 0 = λ z. IsTrace script spec (trace z) in subst P (sym (append-nil p)) known
  run_known allowed (x ∷ q) p t u run known rest =
      let P : List Action → Type 0 = λ z. IsTrace script spec (trace z) in
      subst P (append_step p x q) (run_known allowed q (p ++ x ∷ []) rest.0 u (Run-snoc script p impl t rest.0 x run rest.1) (step_known allowed p x t rest.0 run known rest.1) rest.2)

  -- the trace of each run of the implementation is one of the specification
  all_known : Allowed → (p : List Action) (t : Process) → Run script impl p t → IsTrace script spec (trace p)
  all_known allowed p t run = run_known allowed p [] impl t refl (empty_trace script spec) run

  traces_refined : Allowed → TracesRefinement script spec impl
  traces_refined allowed s is_trace = let P : List Action → Type 0 = IsTrace script spec in subst P is_trace.1.2 (all_known allowed is_trace.1.0 is_trace.0 is_trace.1.1)

failure_refined : (script : Script) (spec : Process) (path : List Action) (u : Process) (s : List Action) (refusal : Refusal) →
    ((xs : List Action) → IsAcceptance script u xs → IsFailure script spec (trace path) (AllBut xs)) → trace path ≡ s → Refuses script u refusal → IsFailure script spec s refusal
failure_refined script spec path u s refusal offers e r =
    let f = offers r.0 r.1 in
    let P : List Action → Type 0 = λ z. IsFailure script spec z refusal in
    let g : P (trace path) = (f.0, f.1, refuses_less script f.0 r.0 refusal r.2 f.2) in
    subst P e g

refined : (script : Script) (model : Model) (spec impl : Process) → TracesRefinement script spec impl →
    ((p : List Action) (t : Process) → Run script impl p t → OffersAllowed script model spec p t) → Refines script model spec impl
refined script Traces spec impl traces offers = traces
refined script Failures spec impl traces offers = record {
  traces = traces;
  failures = λ s refusal f. failure_refined script spec f.1.0 f.0 s refusal (offers f.1.0 f.0 f.1.1) f.1.2 f.2;
}

property_from_allowed : (script : Script) (p : Property) (impl : Process) → AllAllowed script p impl → HasProperty script p impl
property_from_allowed script (RefinementOf model spec) impl allowed =
    refined script model spec impl (traces_refined script model spec impl allowed) (λ p t run. (allowed p t run (all_known script model spec impl allowed p t run)).offers)
property_from_allowed script DeadlockFree impl allowed = λ path t run. allowed path t run tt
property_from_allowed script DivergenceFree impl allowed = λ path t run. allowed path t run tt

pub holds_from_allowed : (script : Script) (a : Assertion) → IsAllowedThroughout script a → HoldsPlainly script a
holds_from_allowed script a allowed = property_from_allowed script a.property a.implementation allowed

refined_traces : (script : Script) (model : Model) (spec impl : Process) → Refines script model spec impl → TracesRefinement script spec impl
refined_traces script Traces spec impl r = r
refined_traces script Failures spec impl r = r.traces

refined_offers : (script : Script) (model : Model) (spec impl : Process) → Refines script model spec impl → (p : List Action) (t : Process) → Run script impl p t → OffersAllowed script model spec p t
refined_offers script Traces spec impl r p t run = tt
refined_offers script Failures spec impl r p t run = λ xs acceptance. r.failures (trace p) (AllBut xs) (t, (p, run, refl), refuses_rest script t xs acceptance)

allowed_from_property : (script : Script) (p : Property) (impl : Process) → HasProperty script p impl → AllAllowed script p impl
allowed_from_property script (RefinementOf model spec) impl r p t run known = record {
  events = λ x visible can. refined_traces script model spec impl r (trace p ++ x ∷ []) (can.0, (p ++ x ∷ [], Run-snoc script p impl t can.0 x run can.1, snoc_trace p x visible));
  offers = refined_offers script model spec impl r p t run;
}
allowed_from_property script DeadlockFree impl free p t run known = free p t run
allowed_from_property script DivergenceFree impl free p t run known = free p t run

pub allowed_from_holds : (script : Script) (a : Assertion) → HoldsPlainly script a → IsAllowedThroughout script a
allowed_from_holds script a holds = allowed_from_property script a.property a.implementation holds

-- where nothing is lacking there is no evidence
pub no_evidence : (script : Script) (p : Property) (path : List Action) (t : Process) (e : Evidence) → IsAllowedBy script p path t → IsEvidence script p path t e → ⊥
no_evidence script (RefinementOf model spec) path t (ByEvent x) allowed e = e.2 (allowed.events x e.0 e.1)
no_evidence script (RefinementOf Traces spec) path t (ByOffers xs) allowed e = e
no_evidence script (RefinementOf Failures spec) path t (ByOffers xs) allowed e = e.1 (allowed.offers xs e.0)
no_evidence script (RefinementOf Traces spec) path t ByDeadlock allowed e = e
no_evidence script (RefinementOf Failures spec) path t ByDeadlock allowed e = e
no_evidence script (RefinementOf Traces spec) path t ByDivergence allowed e = e
no_evidence script (RefinementOf Failures spec) path t ByDivergence allowed e = e
no_evidence script DeadlockFree path t (ByEvent x) allowed e = e
no_evidence script DeadlockFree path t (ByOffers xs) allowed e = e
no_evidence script DeadlockFree path t ByDeadlock allowed e = allowed e
no_evidence script DeadlockFree path t ByDivergence allowed e = e
no_evidence script DivergenceFree path t (ByEvent x) allowed e = e
no_evidence script DivergenceFree path t (ByOffers xs) allowed e = e
no_evidence script DivergenceFree path t ByDeadlock allowed e = e
no_evidence script DivergenceFree path t ByDivergence allowed e = allowed e

pub no_property : (script : Script) (a : Assertion) (v : Violation) → IsViolation script a v → HoldsPlainly script a → ⊥
no_property script a v is r = no_evidence script a.property v.path is.end v.evidence (allowed_from_holds script a r v.path is.end is.run is.known) is.evidence
