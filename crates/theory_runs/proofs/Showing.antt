-- What a firing shows of evidence.
use Rattle.std.proofs.Common.{◌≡◌, false, ◌∷◌, refl, sym, subst, ◌≢◌, ◌↔◌, [], List, Bool, IsTrue, Contains}
use Rattle.theory_syntax.specs.Value.{Action, Tau, has_action}
use Rattle.theory_syntax.specs.Process.{Process, Omega, Script}
use Rattle.theory_semantics.specs.Meaning.Transitions.{RuleStep, IsNotStuck}
use Rattle.theory_semantics.specs.Meaning.Offers.{CanDo, IsAcceptance, of_stable, of_tick}
use Rattle.theory_semantics.specs.Meaning.Divergence.{IsDeadlocked}
use Rattle.theory_semantics.specs.Meaning.Expansions.{IsFired}
use Rattle.theory_semantics.specs.Meaning.Violations.{Evidence, ByEvent, ByOffers, ByDeadlock, ByDivergence}
use Rattle.theory_semantics.proofs.Rising.{stands_from_Contains, Contains-from_stands}
use Rattle.theory_runs.specs.States.{Shows}
use Rattle.theory_runs.proofs.Firing.{fired_steps, can_do, does}

pub accepts_free : (script : Script) (t : Process) (xs : List Action) → IsAcceptance script t xs → IsNotStuck script t
accepts_free script t xs (of_stable stable all) = stable.not_stuck
accepts_free script t xs (of_tick can) = can.1.0

-- a stuck term shows nothing
pub stuck_shows_none : (script : Script) (t : Process) (e : Evidence) → (IsNotStuck script t → ⊥) → Shows script t e → ⊥
stuck_shows_none script t (ByEvent x) stuck can = stuck can.1.0
stuck_shows_none script t (ByOffers xs) stuck accepts = stuck (accepts_free script t xs accepts)
stuck_shows_none script t ByDeadlock stuck dead = stuck (accepts_free script t [] dead.1)
stuck_shows_none script t ByDivergence stuck long = stuck (long 1).1.1.0

module _ (script : Script) (t : Process) (steps : List (Action × Process)) (offers : List (List Action)) (fired : IsFired script t steps offers) where
  -- its steps tell what it can do
  pub shows_step : (x : Action) (r : Bool) → IsTrue r ↔ ((u : Process) × Contains steps (x, u)) → IsTrue r ↔ CanDo script t x
  shows_step x r told =
      let are = fired_steps script t steps offers fired in (
        λ e. does script t steps x are (told.0 e),
        λ can. told.1 (can_do script t steps x are can),
      )

  -- and its offers what it accepts
  pub shows_offer : (xs : List Action) (r : Bool) → IsTrue r ↔ Contains offers xs → IsTrue r ↔ IsAcceptance script t xs
  shows_offer xs r told = let each = fired.each_offer xs in (λ e. each.1 (told.0 e), λ accepts. told.1 (each.0 accepts))

  -- and where it has no step, and has not ended, that it is deadlocked
  none_from : steps ≡ [] → (x : Action) (u : Process) → RuleStep script t x u → ⊥
  none_from none x u step = cc (stands_from_Contains [] (x, u) (subst (λ ss. Contains ss (x, u)) none ((fired.each_step x u).0 step))).1

  dead_by_none : steps ≡ [] → IsAcceptance script t []
  dead_by_none none = of_stable (record { not_stuck = fired.not_stuck; no_tau = none_from none Tau }) (record { rising = tt; each = λ x. (λ e. absurd (cc e), λ can. absurd (none_from none x can.0 can.1.1)) })

  none_by_dead : (xs : List Action) → xs ≡ [] → IsAcceptance script t xs → steps ≡ []
  none_by_dead xs none (of_tick can) = absurd (cc none)
  none_by_dead xs none (of_stable stable all) = by steps refl
    where
      by : (ss : List (Action × Process)) → steps ≡ ss → steps ≡ []
      by [] e = e
      by ((x, u) ∷ ss) e =
          let c = subst (λ zs. Contains zs (x, u)) (sym e) (Contains-from_stands ((x, u) ∷ ss) (x, u) (0, refl)) in
          let told : IsTrue (has_action xs x) = (all.each x).1 (u, (fired.not_stuck, (fired.each_step x u).1 c)) in
          let f : IsTrue false = subst (λ ys. IsTrue (has_action ys x)) none told in
          absurd (cc f)

  pub shows_deadlock : (r : Bool) → IsTrue r ↔ ((t ≢ Omega) × (steps ≡ [])) → IsTrue r ↔ IsDeadlocked script t
  shows_deadlock r told = (λ e. let h = told.0 e in (h.0, dead_by_none h.1), λ dead. told.1 (dead.0, none_by_dead [] refl dead.1))
