-- Once all terms are done there is none that is stuck so.
use Rattle.std.proofs.Common.{ℕ, ◌<◌, ◌≤◌, inl, inr, List, [], ◌∷◌, length, Some, Contains, sym, ◌∙◌, ap, subst, arith}
use Rattle.std.proofs.lemmas.Option.{slice_get_within}
use Rattle.theory_syntax.specs.Value.{Action}
use Rattle.theory_syntax.specs.Process.{Process, Script}
use Rattle.theory_semantics.specs.Kinds.Scripts.{IsTermOf}
use Rattle.theory_semantics.specs.Meaning.Runs.{Run}
use Rattle.theory_semantics.proofs.KindedSteps.{run_closed}
use Rattle.theory_semantics.proofs.Rising.{stands_from_Contains, Contains-from_stands}
use Rattle.theory_runs.specs.Layers.{AreTermsOf}
use Rattle.theory_runs.specs.States.{Visits}
use Rattle.theory_runs.specs.Stuck.{Hindrance}
use Rattle.theory_runs.specs.Runs.{HasNoStuckRun, HasNoneWithin}
use Rattle.theory_runs.specs.Meeting.{Met, AreMet, AreDone}

module _ (script : Script) (t : Process) (h : Hindrance) (done : ℕ) (m : Met) (is : AreDone script t h done m) where
  module _ (all : length m.0 ≤ done) where
    all_met : (path : List Action) (v u : Process) → Contains m.0 v → Run script v path u → Contains m.0 u
    all_met [] v u c run = subst (Contains m.0) run c
    all_met (x ∷ path) v u c run =
        let at = stands_from_Contains m.0 v c in
        let low = slice_get_within m.0 at.0 v at.1 in
        all_met path run.0 u (is.closed at.0 v x run.0 (omega (arith, low, all)) at.1 run.1) run.2

    pub none_stuck : HasNoStuckRun script t h
    none_stuck path u run =
        let at = stands_from_Contains m.0 u (all_met path t u (Contains-from_stands m.0 t (0, is.met.first)) run) in
        let low = slice_get_within m.0 at.0 u at.1 in
        is.none at.0 u (omega (arith, low, all)) at.1

    pub none_within : (n : ℕ) → HasNoneWithin script t h n
    none_within n = inl none_stuck

  -- more terms were met than there are to be
  pub many_met : (n : ℕ) → n < length m.0 → HasNoneWithin script t h n
  many_met n many =
      inr
      (m.0, many, record { each = λ i u at. is.met.reached u (Contains-from_stands m.0 u (i, at)); apart = λ i j u v at there same. is.met.distinct i j u at (there ∙ ap Some (sym same)) })

-- the terms are terms of the script
pub met_closed : (script : Script) (t : Process) (m : Met) → AreMet script t m → IsTermOf script t → AreTermsOf script m.0
met_closed script t m met closed u c = let run = met.reached u c in (closed.0, closed.1, run_closed script closed.0 closed.1.sets closed.1.equations run.0 t u run.1 closed.2)

-- a path that visits states is a run
pub run_of : (script : Script) (path : List Action) (t u : Process) (states : List Process) → Visits script t path states u → Run script t path u
run_of script [] t u states visits = visits.1
run_of script (x ∷ path) t u states visits = (visits.0, visits.3, run_of script path visits.0 u visits.1 visits.4)
