-- What spreads a run is a run.
use Rattle.std.proofs.Common.{◌≡◌, ℕ, zero, suc, List, [], ◌∷◌, ◌++◌, length, replicate, slice_get, Some, refl, sym, ◌∙◌, ap, subst, arith}
use Rattle.theory_syntax.specs.Value.{Action, Tau}
use Rattle.theory_syntax.specs.Process.{Process, Script}
use Rattle.theory_semantics.specs.Meaning.Runs.{trace}
use Rattle.theory_runs.specs.Lassos.{IsLasso}
use Rattle.theory_runs.specs.States.{Visits}
use Rattle.theory_unfolding.proofs.Running.{trace_step}
use Rattle.theory_spread_runs.specs.Spread.{Spreads, ends, tau, acts}

first_of : {X : Type 0} {x y : X} {xs ys : List X} → x ∷ xs ≡ y ∷ ys → x ≡ y
first_of e = cc e

rest_of : {X : Type 0} {x y : X} {xs ys : List X} → x ∷ xs ≡ y ∷ ys → xs ≡ ys
rest_of e = cc e

module _ (s o : Script) where
  pub spread_visits : {t : Process} {path longer : List Action} {states more : List Process} → Spreads s t path states longer more → (v u : Process) → Visits o v path states u →
      Visits s t longer more u
  spread_visits (ends {v = w}) v u visits = (refl, first_of visits.0 ∙ visits.1)
  spread_visits (tau {u = w} {more = more} step rest) v u visits = (w, more, refl, step, spread_visits rest v u visits)
  spread_visits (acts {v = z} {w = w} {path = path} {states = states} {more = more} step rest) v u visits =
      let V : List Process → Type 0 = λ ss. Visits o visits.0 path ss u in
      (w, more, refl, step, spread_visits rest visits.0 u (subst V (sym (rest_of visits.2)) visits.4))

module _ (s : Script) where
  pub spread_trace : {t : Process} {path longer : List Action} {states more : List Process} → Spreads s t path states longer more → trace longer ≡ trace path
  spread_trace ends = refl
  spread_trace (tau step rest) = spread_trace rest
  spread_trace (acts {x = x} {path = path} {longer = longer} step rest) = trace_step x longer path (spread_trace rest)

  -- as many states as actions, and one more
  pub spread_even : {t : Process} {path longer : List Action} {states more : List Process} → Spreads s t path states longer more → length more ≡ suc (length longer)
  spread_even ends = refl
  spread_even (tau step rest) = ap suc (spread_even rest)
  spread_even (acts step rest) = ap suc (spread_even rest)

  -- taus are spread as taus
  spread_taus : {t : Process} {path longer : List Action} {states more : List Process} → Spreads s t path states longer more → (n : ℕ) → path ≡ replicate n Tau → longer ≡ replicate (length longer) Tau
  spread_taus ends n e = refl
  spread_taus (tau step rest) n e = ap (λ l. Tau ∷ l) (spread_taus rest n e)
  spread_taus (acts step rest) zero e = absurd (cc e)
  spread_taus (acts {longer = longer} step rest) (suc n) e =
      let L : Action → Type 0 = λ x. x ∷ longer ≡ Tau ∷ replicate (length longer) Tau in
      subst L (sym (first_of e)) (ap (λ l. Tau ∷ l) (spread_taus rest n (rest_of e)))

length_of_last : (more : List Process) (again : Process) → length (more ++ again ∷ []) ≡ suc (length more)
length_of_last [] again = refl
length_of_last (t ∷ more) again = ap suc (length_of_last more again)

same_suc : (n m : ℕ) → suc n ≡ suc m → n ≡ m
same_suc n m e = omega (arith, e)

pub spread_lasso : (s o : Script) (t again : Process) (n back : ℕ) (longer : List Action) (states more : List Process) → Spreads s t (replicate n Tau) states longer (more ++ again ∷ []) →
    slice_get more back ≡ Some again → Visits o t (replicate n Tau) states again → IsLasso s t more back again
spread_lasso s o t again n back longer states more spread stands visits =
    let same : length longer ≡ length more = same_suc (length longer) (length more) (sym (spread_even s spread) ∙ length_of_last more again) in
    let taus : longer ≡ replicate (length more) Tau = spread_taus s spread n refl ∙ ap (λ k. replicate k Tau) same in
    let V : List Action → Type 0 = λ p. Visits s t p (more ++ again ∷ []) again in
    record { stands = stands; visits = subst V taus (spread_visits s o spread t again visits) }
