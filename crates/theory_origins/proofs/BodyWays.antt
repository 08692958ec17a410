-- The ways of hiding and of renaming.
use Rattle.std.proofs.Common.{◌≡◌, ◌≤◌, ℕ, zero, suc, Bool, not, IsTrue, Contains, List, [], ◌∷◌, map, refl, sym, subst, arith, Option, Some, None, Ok, Err}
use Rattle.std.specs.List.{AllByRecursion}
use Rattle.theory_syntax.specs.Value.{Event, Action, Tau, Tick, Ev}
use Rattle.theory_syntax.specs.Process.{EventSet, RenamingPair, Process, Hiding, Renaming, Script}
use Rattle.theory_syntax.proofs.Members.{contains_here, contains_there}
use Rattle.theory_semantics.specs.Meaning.Evaluation.{Cause}
use Rattle.theory_semantics.specs.Meaning.Events.{event_test, images}
use Rattle.theory_semantics.specs.Meaning.Limits.{fits}
use Rattle.theory_semantics.specs.Meaning.Transitions.{RuleStep}
use Rattle.theory_origins.specs.Origin.{InBody, Hides, Passage, Renames, Origin, Below, ComesFrom}
use Rattle.theory_origins.specs.Telling.{IsBody, NoneThrough, TellsUnder, TellsWhere}
use Rattle.theory_origins.specs.Ways.{AreEventsTo, AreWays, IsBodyWhere, TellsBy, Through, Way, part, way_weight}
use Rattle.theory_origins.specs.Weight.{weight}
use Rattle.theory_origins.proofs.TellingBodies.{hides_event_comes, hides_none, hides_tau_comes, hiding_ends, hiding_no_end, hiding_stuck, renamed_comes, renamed_tau_comes, renaming_ends, renaming_no_end, renaming_no_event, renaming_no_tau, seen_comes, seen_none}
use Rattle.theory_origins.proofs.Ways.{along, closed, no_ways, none_under, none_where, told_under, told_where}
use Rattle.theory_origins.proofs.Weighing.{hiding_weight, renaming_weight}

-- ---- one way for each of some events

module _ {X : Type 0} (P : Way → Type 0) (f : X → Way) where
  each_way : (xs : List X) → ((x : X) → Contains xs x → P (f x)) → AllByRecursion P (map f xs)
  each_way [] h = tt
  each_way (x ∷ xs) h = (h x (contains_here x xs), each_way xs (λ y has. h y (contains_there x xs y has)))

  of_each : (xs : List X) → AllByRecursion P (map f xs) → (x : X) → Contains xs x → P (f x)
  of_each [] all x (k, h, e) = absurd (omega arith)
  of_each (y ∷ ys) all x (zero, h, e) = let Q : X → Type 0 = λ z. P (f z) in subst Q e all.0
  of_each (y ∷ ys) all x (suc k, h, e) = of_each ys all.1 x (k, omega arith, e)

module _ (s : Script) (under : Process → Process) (p u t : Process) (passage : Event → Passage) (passes : Event → Type 0) (es : List Event) (are : AreEventsTo s p u passes es) where
  each_sound : (whole : Process) (x : Action) → ((e : Event) → passes e → (b : Origin) → ComesFrom s p (Ev e) u b → ComesFrom s whole x t (Below (passage e) b)) →
      AllByRecursion (λ way. (o : Origin) → TellsBy s way (Some o) → ComesFrom s whole x t o) (map (λ e. Through (passage e) (part p (Ev e) (Some u))) es)
  each_sound whole x rule =
      each_way (λ way. (o : Origin) → TellsBy s way (Some o) → ComesFrom s whole x t o) (λ e. Through (passage e) (part p (Ev e) (Some u))) es
      (λ e has. along s p (Ev e) (Some u) (passage e) whole x t (rule e (are.passing e has)))

  each_closed : IsBody under t (Some u) → AllByRecursion (λ way. TellsBy s way None) (map (λ e. Through (passage e) (part p (Ev e) (Some u))) es) → NoneThrough s under passes p t
  each_closed is all clear e v passing made within step =
      let same : v ≡ u = is.1 v made in
      let P : Process → Type 0 = λ w. IsTrue (fits w) → RuleStep s p (Ev e) w → ⊥ in
      let none : IsTrue (fits u) → RuleStep s p (Ev e) u → ⊥ = λ small h. closed s p (Ev e) (Some u) (passage e) (of_each (λ way. TellsBy s way None) (λ f. Through (passage f) (part p (Ev f) (Some u))) es all e (are.every clear small e passing h)) clear small h in
      subst P (sym same) none within step

  each_smaller : (n : ℕ) → suc (weight s p) ≤ n → AllByRecursion (λ way. way_weight s way ≤ n) (map (λ e. Through (passage e) (part p (Ev e) (Some u))) es)
  each_smaller n h = each_way (λ way. way_weight s way ≤ n) (λ e. Through (passage e) (part p (Ev e) (Some u))) es (λ e has. h)

-- ---- hiding

module _ (s : Script) (p : Process) (a : EventSet) (t : Process) where
  pub hiding_tick_ways : AreWays s (Hiding p a) Tick t (Through InBody (part p Tick (Some t)) ∷ [])
  hiding_tick_ways = record {
    sound = (along s p Tick (Some t) InBody (Hiding p a) Tick t (λ b h. hiding_ends s p a t b h), tt);
    complete = λ all. hiding_no_end s p a t (closed s p Tick (Some t) InBody all.0);
    smaller = (omega (arith, hiding_weight s p a), tt);
  }

  pub hiding_stuck_ways : (x : Action) (c : Cause) → event_test s a ≡ Err c → AreWays s (Hiding p a) x t []
  hiding_stuck_ways x c is = no_ways s (Hiding p a) x t (hiding_stuck s p a c x t is)

  module _ (test : Event → Bool) (is : event_test s a ≡ Ok test) where
    pub hidden_tau_ways : (u : Process) (es : List Event) → IsBody (λ v. Hiding v a) t (Some u) → AreEventsTo s p u (λ e. IsTrue (test e)) es →
        AreWays s (Hiding p a) Tau t (Through InBody (part p Tau (Some u)) ∷ map (λ e. Through (Hides e) (part p (Ev e) (Some u))) es)
    hidden_tau_ways u es body are = record {
      sound = (
        along s p Tau (Some u) InBody (Hiding p a) Tau t (λ b h. hides_tau_comes s p a test is t b (u, body.0, h)),
        each_sound s (λ v. Hiding v a) p u t Hides (λ e. IsTrue (test e)) es are (Hiding p a) Tau (λ e hidden b h. hides_event_comes s p a test is e t b hidden (u, body.0, h)),
      );
      complete = λ all. hides_none s p a test is t (none_under s (λ v. Hiding v a) p Tau t (Some u) body (closed s p Tau (Some u) InBody all.0))
          (each_closed s (λ v. Hiding v a) p u t Hides (λ e. IsTrue (test e)) es are body all.1);
      smaller = (omega (arith, hiding_weight s p a), each_smaller s (λ v. Hiding v a) p u t Hides (λ e. IsTrue (test e)) es are (weight s (Hiding p a)) (omega (arith, hiding_weight s p a)));
    }

    pub no_hidden_ways : IsBody (λ v. Hiding v a) t None → AreWays s (Hiding p a) Tau t []
    no_hidden_ways none = no_ways s (Hiding p a) Tau t (hides_none s p a test is t (λ clear v made. absurd (none v made)) (λ clear e v passing made. absurd (none v made)))

    pub hidden_event_ways : (e : Event) → IsTrue (test e) → AreWays s (Hiding p a) (Ev e) t []
    hidden_event_ways e hidden =
        no_ways s (Hiding p a) (Ev e) t (seen_none s p a test is e t (let T : Bool → Type 0 = λ b. TellsWhere (not b) (TellsUnder s (λ u. Hiding u a) p (Ev e) t) None in subst T (sym hidden) refl))

    pub seen_ways : (e : Event) (target : Option Process) → IsBodyWhere (not (test e)) (λ v. Hiding v a) t target → AreWays s (Hiding p a) (Ev e) t (Through InBody (part p (Ev e) target) ∷ [])
    seen_ways e target body = record {
      sound = (along s p (Ev e) target InBody (Hiding p a) (Ev e) t (λ b h. let told = told_where s (λ v. Hiding v a) p (Ev e) t (not (test e)) target body b h in seen_comes s p a test is e t b told.0 told.1), tt);
      complete = λ all. seen_none s p a test is e t (none_where s (λ v. Hiding v a) p (Ev e) t (not (test e)) target body (closed s p (Ev e) target InBody all.0));
      smaller = (omega (arith, hiding_weight s p a), tt);
    }

-- ---- renaming

module _ (s : Script) (p : Process) (rs : List RenamingPair) (t : Process) where
  pub renaming_tick_ways : AreWays s (Renaming p rs) Tick t (Through InBody (part p Tick (Some t)) ∷ [])
  renaming_tick_ways = record {
    sound = (along s p Tick (Some t) InBody (Renaming p rs) Tick t (λ b h. renaming_ends s p rs t b h), tt);
    complete = λ all. renaming_no_end s p rs t (closed s p Tick (Some t) InBody all.0);
    smaller = (omega (arith, renaming_weight s p rs), tt);
  }

  pub renamed_tau_ways : (target : Option Process) → IsBody (λ v. Renaming v rs) t target → AreWays s (Renaming p rs) Tau t (Through InBody (part p Tau target) ∷ [])
  renamed_tau_ways target body = record {
    sound = (along s p Tau target InBody (Renaming p rs) Tau t (λ b h. renamed_tau_comes s p rs t b (told_under s (λ v. Renaming v rs) p Tau t target body b h)), tt);
    complete = λ all. renaming_no_tau s p rs t (none_under s (λ v. Renaming v rs) p Tau t target body (closed s p Tau target InBody all.0));
    smaller = (omega (arith, renaming_weight s p rs), tt);
  }

  pub renamed_event_ways : (f : Event) (u : Process) (es : List Event) → IsBody (λ v. Renaming v rs) t (Some u) → AreEventsTo s p u (λ e. Contains (images s rs e) f) es →
      AreWays s (Renaming p rs) (Ev f) t (map (λ e. Through (Renames e f) (part p (Ev e) (Some u))) es)
  renamed_event_ways f u es body are = record {
    sound = each_sound s (λ v. Renaming v rs) p u t (λ e. Renames e f) (λ e. Contains (images s rs e) f) es are (Renaming p rs) (Ev f) (λ e image b h. renamed_comes s p rs e f t b image (u, body.0, h));
    complete = λ all. renaming_no_event s p rs f t (each_closed s (λ v. Renaming v rs) p u t (λ e. Renames e f) (λ e. Contains (images s rs e) f) es are body all);
    smaller = each_smaller s (λ v. Renaming v rs) p u t (λ e. Renames e f) (λ e. Contains (images s rs e) f) es are (weight s (Renaming p rs)) (omega (arith, renaming_weight s p rs));
  }

  pub no_renamed_ways : (f : Event) → IsBody (λ v. Renaming v rs) t None → AreWays s (Renaming p rs) (Ev f) t []
  no_renamed_ways f none = no_ways s (Renaming p rs) (Ev f) t (renaming_no_event s p rs f t (λ clear e v passing made. absurd (none v made)))
