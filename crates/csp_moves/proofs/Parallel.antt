-- The ways of a parallel composition are those of its step.
use Rattle.std.proofs.Common.{◌≡◌, suc, ◌+◌, Bool, true, false, not, ◌&&◌, [], List, refl, sym, subst, inl, inr, IfOk, Result, Ok, Err}
use Rattle.std.specs.declared.vec.Vec.{Vec}
use Rattle.theory_syntax.specs.Value.{Event, Action, Tau, Tick, Ev}
use Rattle.theory_syntax.specs.Process.{EventSet, Process, AlphabetisedParallel, GeneralisedParallel, Interleaving, Script}
use Rattle.theory_syntax.specs.declared.process_operator.ProcessOperator.TheVariants as binary
use Rattle.theory_semantics.specs.Meaning.Evaluation.{Cause}
use Rattle.theory_semantics.specs.Meaning.Events.{event_test}
use Rattle.theory_semantics.specs.Meaning.Stepping.{always, never}
use Rattle.theory_origins.specs.Telling.{IsParallel}
use Rattle.theory_origins.specs.Ways.{AreWays, IsBodyWhere, IsSplitWhere}
use Rattle.theory_origins.specs.Ways as meaning
use Rattle.theory_origins.specs.Weight.{weight}
use Rattle.theory_origins.proofs.ParallelWays.{parallel_ended_ways, parallel_event_ways, parallel_running_ways, parallel_tau_ways}
use Rattle.theory_origins.proofs.TellingTogether.{alphabetised_rules, alphabetised_stuck_left, alphabetised_stuck_right, generalised_rules, generalised_stuck, interleaving_rules}
use Rattle.theory_origins.proofs.Ways.{no_ways}
use Rattle.theory_origins.proofs.Weighing.{alphabetised_weight, binary_weight, generalised_weight}
use Rattle.csp_moves.specs.declared.together.Freedom.{Freedom}
use Rattle.csp_moves.specs.declared.way.Way.{Way}
use Rattle.csp_moves.specs.Parallel.{AreParallelWays, IsFreedom}
use Rattle.csp_moves.specs.Way.{AreFound, AreFoundIn, ways_of}
use Rattle.csp_moves.proofs.Found.{found_in}

module _ (s : Script) (under : Process → Process → Process) (left_free right_free shared : Event → Bool) (rules : IsParallel s under left_free right_free shared)
    (larger : (p q : Process) → weight s (under p q) ≡ suc (weight s p + weight s q)) (p q t : Process) where
  pub parallel_are : (free : Freedom) (x : Action) (ws : List meaning.Way) → IsFreedom left_free right_free shared x free → AreParallelWays under free p q x t ws → AreWays s (under p q) x t ws
  parallel_are free Tau ws may h =
      let P : List meaning.Way → Type 0 = λ w. AreWays s (under p q) Tau t w in
      subst P (sym h.4) (parallel_tau_ways s under left_free right_free shared rules larger p q t h.0 h.1 h.0 h.1 h.2 h.3 h.2 h.3)
  parallel_are free Tick ws may (inl h) =
      let P : List meaning.Way → Type 0 = λ w. AreWays s (under p q) Tick t w in
      subst P (sym h.1) (parallel_ended_ways s under left_free right_free shared rules larger p q t h.0.0 h.0.1 h.0.2)
  parallel_are free Tick ws may (inr h) =
      let P : List meaning.Way → Type 0 = λ w. AreWays s (under p q) Tick t w in
      subst P (sym h.1) (parallel_running_ways s under left_free right_free shared rules larger p q t h.0)
  parallel_are free (Ev e) ws may h =
      let P : List meaning.Way → Type 0 = λ w. AreWays s (under p q) (Ev e) t w in
      let L : Bool → Type 0 = λ b. IsBodyWhere b (λ w. under w q) t h.0 in
      let R : Bool → Type 0 = λ b. IsBodyWhere b (λ w. under p w) t h.1 in
      let B : Bool → Type 0 = λ b. IsSplitWhere b under t h.2 in
      subst P (sym h.6) (parallel_event_ways s under left_free right_free shared rules larger p q t e h.0 h.1 h.2 (subst L may.0 h.3) (subst R may.1 h.4) (subst B may.2 h.5))

  pub parallel_found : {A E : Type 0} (free : Freedom) (x : Action) (r : Result (Vec (Way A) A) E) → IsFreedom left_free right_free shared x free →
      IfOk r (λ ways. AreParallelWays under free p q x t (ways_of ways)) → IfOk r (AreFoundIn s (under p q) x t)
  parallel_found free x (Ok ways) may h = parallel_are free x (ways_of ways) may h
  parallel_found free x (Err e) may h = tt

module _ {A E : Type 0} (s : Script) (p q t : Process) (x : Action) (r : Result (Vec (Way A) A) E) where
  module _ (free : Freedom) where
    pub generalised_found : (a : EventSet) (test : Event → Bool) → event_test s a ≡ Ok test → IsFreedom (λ e. not (test e)) (λ e. not (test e)) test x free →
        IfOk r (λ ways. AreParallelWays (λ u v. GeneralisedParallel u a v) free p q x t (ways_of ways)) → IfOk r (AreFoundIn s (GeneralisedParallel p a q) x t)
    generalised_found a test is may h =
        parallel_found s (λ u v. GeneralisedParallel u a v) (λ e. not (test e)) (λ e. not (test e)) test (generalised_rules s a test is) (λ u v. generalised_weight s u a v) p q t free x r may h

    pub alphabetised_found : (a b : EventSet) (f g : Event → Bool) → event_test s a ≡ Ok f → event_test s b ≡ Ok g → IsFreedom (λ e. f e && not (g e)) (λ e. g e && not (f e)) (λ e. f e && g e) x free →
        IfOk r (λ ways. AreParallelWays (λ u v. AlphabetisedParallel u a b v) free p q x t (ways_of ways)) → IfOk r (AreFoundIn s (AlphabetisedParallel p a b q) x t)
    alphabetised_found a b f g is_f is_g may h =
        parallel_found s (λ u v. AlphabetisedParallel u a b v) (λ e. f e && not (g e)) (λ e. g e && not (f e)) (λ e. f e && g e) (alphabetised_rules s a b f g is_f is_g) (λ u v. alphabetised_weight s u a b v) p q t free x r may h

  -- where a set has no test, there is no way
  pub generalised_none : (a : EventSet) (c : Cause) → event_test s a ≡ Err c → IfOk r (λ ways. ways_of ways ≡ []) → IfOk r (AreFoundIn s (GeneralisedParallel p a q) x t)
  generalised_none a c is ways = found_in s (GeneralisedParallel p a q) x t r _ [] ways refl (no_ways s (GeneralisedParallel p a q) x t (generalised_stuck s p a q c x t is))

  pub alphabetised_none_left : (a b : EventSet) (c : Cause) → event_test s a ≡ Err c → IfOk r (λ ways. ways_of ways ≡ []) → IfOk r (AreFoundIn s (AlphabetisedParallel p a b q) x t)
  alphabetised_none_left a b c is ways = found_in s (AlphabetisedParallel p a b q) x t r _ [] ways refl (no_ways s (AlphabetisedParallel p a b q) x t (alphabetised_stuck_left s p a b q c x t is))

  pub alphabetised_none_right : (a b : EventSet) (c : Cause) → event_test s b ≡ Err c → IfOk r (λ ways. ways_of ways ≡ []) → IfOk r (AreFoundIn s (AlphabetisedParallel p a b q) x t)
  alphabetised_none_right a b c is ways = found_in s (AlphabetisedParallel p a b q) x t r _ [] ways refl (no_ways s (AlphabetisedParallel p a b q) x t (alphabetised_stuck_right s p a b q c x t is))

-- each side of an interleaving does all alone
pub all_free : (x : Action) (free : Freedom) → free.left ≡ true → free.right ≡ true → free.shared ≡ false → IsFreedom always always never x free
all_free Tau free l r b = tt
all_free Tick free l r b = tt
all_free (Ev e) free l r b = (l, r, b)

pub interleaving_all : {A E : Type 0} (p q t : Process) (free : Freedom) (x : Action) (r : Result (Vec (Way A) A) E) → IsFreedom always always never x free →
    IfOk r (λ ways. AreParallelWays Interleaving free p q x t (ways_of ways)) → IfOk r (AreFound (Interleaving p q) x t)
interleaving_all p q t free x (Ok ways) may h = λ s. parallel_are s Interleaving always always never (interleaving_rules s) (λ u v. binary_weight s binary.Interleaving u v) p q t free x (ways_of ways) may h
interleaving_all p q t free x (Err e) may h = tt
