-- Traces, failures and refinement are the same in both readings.
use Rattle.std.proofs.Common.{List, ◌∙◌}
use Rattle.theory_syntax.specs.Value.{Action}
use Rattle.theory_syntax.specs.Process.{Process, Model, Traces, Failures, Script}
use Rattle.theory_semantics.specs.Meaning.Transitions.{IsNotStuck}
use Rattle.theory_semantics.specs.Meaning.Runs.{IsTrace, NoneStuck}
use Rattle.theory_semantics.specs.Meaning.Offers.{IsAcceptance, of_stable, of_tick, Refusal, IsFailure}
use Rattle.theory_semantics.specs.Meaning.Refinement.{TracesRefinement, Refines}
use Rattle.theory_semantics.specs.Meaning.Properties.{IsDeadlockFree}
use Rattle.theory_syntax.specs.Readings.{by_tau, at_once}
use Rattle.theory_unfolding.specs.Unfolded.{IsUnfoldedTo}
use Rattle.theory_unfolding.proofs.Running.{run_on, run_back, run_to_end}
use Rattle.theory_unfolding.proofs.Offering.{accepts_on, accepts_back, deadlocked_on, deadlocked_back}

-- what accepts something is not stuck
pub accepting_is_not_stuck : (script : Script) (t : Process) (xs : List Action) → IsAcceptance script t xs → IsNotStuck script t
accepting_is_not_stuck script t xs (of_stable is all) = is.not_stuck
accepting_is_not_stuck script t xs (of_tick can) = can.1.0

module _ (s : Script) (t v : Process) (d : IsUnfoldedTo s t v) where
  pub trace_on : (l : List Action) → NoneStuck (at_once s) v → IsTrace (by_tau s) t l → IsTrace (at_once s) v l
  trace_on l none h = let r = run_on s h.1.0 t h.0 v d none h.1.1 in (r.1, (r.0, r.2, r.3 ∙ h.1.2))

  pub trace_back : (l : List Action) → IsTrace (at_once s) v l → IsTrace (by_tau s) t l
  trace_back l h = let r = run_back s h.1.0 t v h.0 d h.1.1 in (r.1, (r.0, r.2, r.3 ∙ h.1.2))

  pub failure_on : (l : List Action) (refusal : Refusal) → NoneStuck (at_once s) v → IsFailure (by_tau s) t l refusal → IsFailure (at_once s) v l refusal
  failure_on l refusal none h =
      let r = run_on s h.1.0 t h.0 v d none h.1.1 in
      (r.1, (r.0, r.2, r.3 ∙ h.1.2), (h.2.0, accepts_on s h.0 r.1 h.2.0 r.4 (none r.0 r.1 r.2) h.2.1, h.2.2))

  pub failure_back : (l : List Action) (refusal : Refusal) → IsFailure (at_once s) v l refusal → IsFailure (by_tau s) t l refusal
  failure_back l refusal h =
      let r = run_to_end s h.1.0 t v h.0 d h.1.1 (accepting_is_not_stuck (at_once s) h.0 h.2.0 h.2.1) in
      (h.0, (r.0, r.1, r.2 ∙ h.1.2), (h.2.0, accepts_back s h.0 h.2.0 h.2.1, h.2.2))

  pub deadlock_free_on : NoneStuck (at_once s) v → IsDeadlockFree (at_once s) v → IsDeadlockFree (by_tau s) t
  deadlock_free_on none free path w run is =
      let r = run_on s path t w v d none run in free r.0 r.1 r.2 (deadlocked_on s w r.1 r.4 (none r.0 r.1 r.2) is)

  pub deadlock_free_back : IsDeadlockFree (by_tau s) t → IsDeadlockFree (at_once s) v
  deadlock_free_back free path u run is =
      let r = run_to_end s path t v u d run (accepting_is_not_stuck (at_once s) u _ is.1) in free r.0 u r.1 (deadlocked_back s u is)

module _ (s : Script) (spec new_spec impl new_impl : Process) (d : IsUnfoldedTo s spec new_spec) (e : IsUnfoldedTo s impl new_impl) where
  traces_on : NoneStuck (at_once s) new_impl → TracesRefinement (at_once s) new_spec new_impl → TracesRefinement (by_tau s) spec impl
  traces_on none r l h = trace_back s spec new_spec d l (r l (trace_on s impl new_impl e l none h))

  traces_back : NoneStuck (at_once s) new_spec → TracesRefinement (by_tau s) spec impl → TracesRefinement (at_once s) new_spec new_impl
  traces_back none r l h = trace_on s spec new_spec d l none (r l (trace_back s impl new_impl e l h))

  pub refines_on : (m : Model) → NoneStuck (at_once s) new_impl → Refines (at_once s) m new_spec new_impl → Refines (by_tau s) m spec impl
  refines_on Traces none r = traces_on none r
  refines_on Failures none r = record {
    traces = traces_on none r.traces;
    failures = λ l refusal h. failure_back s spec new_spec d l refusal (r.failures l refusal (failure_on s impl new_impl e l refusal none h));
  }

  pub refines_back : (m : Model) → NoneStuck (at_once s) new_spec → Refines (by_tau s) m spec impl → Refines (at_once s) m new_spec new_impl
  refines_back Traces none r = traces_back none r
  refines_back Failures none r = record {
    traces = traces_back none r.traces;
    failures = λ l refusal h. failure_on s spec new_spec d l refusal none (r.failures l refusal (failure_back s impl new_impl e l refusal h));
  }
