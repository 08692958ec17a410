-- Each step of a counterexample, and of a run to a stuck state, comes from the origin that is told.
use Rattle.std.proofs.Common.{◌≡◌, ℕ, zero, suc, ◌<◌, List, [], ◌∷◌, ◌++◌, length, replicate, Option, Some, None, slice_get, refl, sym, ap, subst, arith}
use Rattle.theory_syntax.specs.Value.{Action, Tau}
use Rattle.theory_syntax.specs.Process.{Process, Assertion, Script}
use Rattle.theory_semantics.specs.Meaning.Transitions.{Step}
use Rattle.theory_semantics.specs.Meaning.Runs.{Run}
use Rattle.theory_semantics.specs.Meaning.Violations.{ByDivergence, Violation}
use Rattle.theory_origins.specs.Origin.{Origin, ComesFrom}
use Rattle.theory_origins.specs.Telling.{Tells}
use Rattle.theory_runs.specs.States.{Visits}
use Rattle.theory_runs.proofs.Visiting.{first_state, run_of}
use Rattle.theory_runs.specs.Stuck.{Hindrance}
use Rattle.theory_runs.proofs.Lassos.{each_diverges}
use Rattle.theory_explanation.specs.Counterexamples.{AreOriginsAlong, Counterexample, HasOriginAt, IsCounterexample, IsLoop, IsLoopFor, Loop, TellsDivergence}
use Rattle.theory_explanation.specs.Faults.{IsToldRun}

module _ (script : Script) where
  -- what is told of a step is an origin
  told_some : (s t : Process) (x : Action) (o : Option Origin) → Step script s x t → Tells script s x t o → (origin : Origin) × (o ≡ Some origin) × ComesFrom script s x t origin
  told_some s t x (Some o) step told = (o, refl, told)
  told_some s t x None step told = absurd (told step.0.no_cause (step.0.targets x t step.1) step.1)

  abbrev HasEach : List Action → List Process → List (Option Origin) → Type 0
  HasEach path states origins = (i : ℕ) (x : Action) → slice_get path i ≡ Some x → HasOriginAt script states origins i x

  -- one step more at the front
  one_more : (y : Action) (path : List Action) (t mid : Process) (rest : List Process) (origins : List (Option Origin)) → Step script t y mid → slice_get rest 0 ≡ Some mid →
      AreOriginsAlong script (y ∷ path) (t ∷ rest) origins → ((others : List (Option Origin)) → AreOriginsAlong script path rest others → HasEach path rest others) → HasEach (y ∷ path) (t ∷ rest) origins
  one_more y path t mid [] origins step at told more i x there = absurd (cc at)
  one_more y path t mid (m ∷ rest) [] step at told more i x there = absurd told
  one_more y path t mid (m ∷ rest) (o ∷ origins) step at told more zero x there =
      let same : Some m ≡ Some mid = at in
      let is : m ≡ mid = cc same in
      let does : Some y ≡ Some x = there in
      let done : y ≡ x = cc does in
      let found = told_some t m y o (subst (λ u. Step script t y u) (sym is) step) told.0 in
      (t, m, found.0, refl, refl, ap Some found.1, subst (λ z. ComesFrom script t z m found.0) done found.2)
  one_more y path t mid (m ∷ rest) (o ∷ origins) step at told more (suc i) x there = more origins told.1 i x there

  each_told : (path : List Action) (t u : Process) (states : List Process) (origins : List (Option Origin)) → Visits script t path states u → AreOriginsAlong script path states origins → HasEach path states origins
  each_told [] t u states origins visits told i x there = absurd (cc there)
  each_told (y ∷ path) t u states origins visits told i x there =
      let told_of : AreOriginsAlong script (y ∷ path) (t ∷ visits.1) origins = subst (λ ss. AreOriginsAlong script (y ∷ path) ss origins) visits.2 told in
      let found = one_more y path t visits.0 visits.1 origins visits.3 (first_state script path visits.0 u visits.1 visits.4) told_of
      (λ others h. each_told path visits.0 u visits.1 others visits.4 h) i x there in
      subst (λ ss. HasOriginAt script ss origins i x) (sym visits.2) found

pub origins_told : (script : Script) (a : Assertion) (v : Violation) (n : ℕ) (found : Counterexample) (i : ℕ) (x : Action) → IsCounterexample script a v n found → slice_get v.path i ≡ Some x →
    HasOriginAt script found.states found.origins i x
origins_told script a v n found i x is there = each_told script v.path a.implementation is.replay.end found.states found.origins is.replay.visits is.origins i x there

pub run_origins_told : (script : Script) (t : Process) (h : Hindrance) (path : List Action) (states : List Process) (origins : List (Option Origin)) (i : ℕ) (x : Action) →
    IsToldRun script t h path states origins → slice_get path i ≡ Some x → HasOriginAt script states origins i x
run_origins_told script t h path states origins i x is there = each_told script path t is.run.end states origins is.run.visits is.told i x there

-- ---- loops

get_replicate : {X : Type 0} (n i : ℕ) (x : X) → i < n → slice_get (replicate n x) i ≡ Some x
get_replicate zero i x low = absurd (omega (arith, low))
get_replicate (suc n) zero x low = refl
get_replicate (suc n) (suc i) x low = get_replicate n i x (omega (arith, low))

first_of : (states : List Process) (again t : Process) (back : ℕ) → slice_get states back ≡ Some again → slice_get (states ++ again ∷ []) 0 ≡ Some t → slice_get states 0 ≡ Some t
first_of [] again t back at first = absurd (cc at)
first_of (s ∷ states) again t back at first = first

loop_tells : (script : Script) (t end : Process) (path : List Action) (loop : Loop) → Run script t path end → IsLoop script end loop → TellsDivergence script t path loop
loop_tells script t end path loop run is = record {
  end = end;
  run = run;
  first = first_of loop.states is.again end loop.back is.lasso.stands (first_state script (replicate (length loop.states) Tau) end is.again (loop.states ++ is.again ∷ []) is.lasso.visits);
  each = each_diverges script end loop.states loop.back is.again is.lasso;
  told = (
    is.again,
    is.lasso.stands,
    λ i low. each_told script (replicate (length loop.states) Tau) end is.again (loop.states ++ is.again ∷ []) loop.origins is.lasso.visits is.told i Tau (get_replicate (length loop.states) i Tau low),
  );
}

pub divergence_told : (script : Script) (a : Assertion) (v : Violation) (n : ℕ) (found : Counterexample) → IsCounterexample script a v n found → v.evidence ≡ ByDivergence →
    (loop : Loop) × (found.loop ≡ Some loop) × TellsDivergence script a.implementation v.path loop
divergence_told script a v n found is diverges = by found.loop refl (subst (λ e. IsLoopFor script e is.replay.end found.loop) diverges is.loop)
  where
    by : (l : Option Loop) → found.loop ≡ l → IsLoopFor script ByDivergence is.replay.end l → (loop : Loop) × (l ≡ Some loop) × TellsDivergence script a.implementation v.path loop
    by (Some loop) e told = (loop, refl, loop_tells script a.implementation is.replay.end v.path loop (run_of script v.path a.implementation is.replay.end found.states is.replay.visits) told)
    by None e told = absurd told
