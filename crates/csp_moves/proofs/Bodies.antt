-- The ways of hiding and of renaming, by what is found of the target and of the events of the body.
use Rattle.std.proofs.Common.{◌≡◌, Bool, true, false, not, Contains, IsTrue, List, [], ◌∷◌, map, sym, ◌∙◌, ap, subst, Option, Some, None, Ok, Err}
use Rattle.theory_syntax.specs.Value.{Action, Ev, Event, Tau}
use Rattle.theory_syntax.specs.Process.{EventSet, Hiding, Process, Renaming, RenamingPair, Script}
use Rattle.theory_syntax.proofs.Members.{contains_none}
use Rattle.theory_semantics.specs.Meaning.Evaluation.{Cause}
use Rattle.theory_semantics.specs.Meaning.Events.{event_test, images, images_by, renaming}
use Rattle.theory_origins.specs.Origin.{Hides, InBody, Renames}
use Rattle.theory_origins.specs.Telling.{IsBody}
use Rattle.theory_origins.specs.Ways.{AreEventsTo, AreWays, IsBodyWhere, Through, part}
use Rattle.theory_origins.proofs.BodyWays as law
use Rattle.csp_moves.specs.Bodies.{AreHiddenEvents, AreRenamedEvents}

module _ (s : Script) (p : Process) (a : EventSet) (t : Process) where
  module _ (test : Event → Bool) (is : event_test s a ≡ Ok test) where
    pub hidden_tau_are : (u : Process) (es : List Event) → IsBody (λ v. Hiding v a) t (Some u) → AreHiddenEvents s p a Tau t es →
        AreWays s (Hiding p a) Tau t (Through InBody (part p Tau (Some u)) ∷ map (λ e. Through (Hides e) (part p (Ev e) (Some u))) es)
    hidden_tau_are u es body are = law.hidden_tau_ways s p a t test is u es body (are test is u body.0)

    pub no_hidden_are : IsBody (λ v. Hiding v a) t None → AreWays s (Hiding p a) Tau t []
    no_hidden_are none = law.no_hidden_ways s p a t test is none

    pub hidden_event_are : (e : Event) → test e ≡ true → AreWays s (Hiding p a) (Ev e) t []
    hidden_event_are e hidden = law.hidden_event_ways s p a t test is e hidden

    pub seen_are : (e : Event) (target : Option Process) → test e ≡ false → IsBody (λ v. Hiding v a) t target → AreWays s (Hiding p a) (Ev e) t (Through InBody (part p (Ev e) target) ∷ [])
    seen_are e target seen body =
        law.seen_ways s p a t test is e target (let P : Bool → Type 0 = λ b. IsBodyWhere (not b) (λ v. Hiding v a) t target in subst P (sym seen) body)

  pub stuck_are : (x : Action) (c : Cause) → event_test s a ≡ Err c → AreWays s (Hiding p a) x t []
  stuck_are x c is = law.hiding_stuck_ways s p a t x c is

module _ (s : Script) (p : Process) (rs : List RenamingPair) (t : Process) where
  pub renamed_event_are : (f : Event) (u : Process) (es : List Event) → IsBody (λ v. Renaming v rs) t (Some u) → AreRenamedEvents s p rs (Ev f) t es →
      AreWays s (Renaming p rs) (Ev f) t (map (λ e. Through (Renames e f) (part p (Ev e) (Some u))) es)
  renamed_event_are f u es body are = law.renamed_event_ways s p rs t f u es body (are u body.0)

-- ---- the events of the body

module _ (s : Script) (p : Process) (t u : Process) (es : List Event) where
  moved : (Q : Event → Type 0) (v : Process) → v ≡ u → AreEventsTo s p u Q es → AreEventsTo s p v Q es
  moved Q v same are = let P : Process → Type 0 = λ w. AreEventsTo s p w Q es in subst P (sym same) are

  pub hidden_events_are : (a : EventSet) (test : Event → Bool) → event_test s a ≡ Ok test → IsBody (λ v. Hiding v a) t (Some u) → AreEventsTo s p u (λ e. IsTrue (test e)) es → AreHiddenEvents s p a Tau t es
  hidden_events_are a test is body are other known v made =
      let both : Ok test ≡ Ok other = sym is ∙ known in
      let same : test ≡ other = cc both in
      let P : (Event → Bool) → Type 0 = λ f. AreEventsTo s p v (λ e. IsTrue (f e)) es in
      subst P same (moved (λ e. IsTrue (test e)) v (body.1 v made) are)

  pub renamed_events_are : (rs : List RenamingPair) (f : Event) → IsBody (λ v. Renaming v rs) t (Some u) → AreEventsTo s p u (λ e. Contains (images s rs e) f) es → AreRenamedEvents s p rs (Ev f) t es
  renamed_events_are rs f body are v made = moved (λ e. Contains (images s rs e) f) v (body.1 v made) are

module _ (s : Script) (p : Process) (t : Process) where
  pub no_hidden_body : (a : EventSet) (es : List Event) → IsBody (λ v. Hiding v a) t None → AreHiddenEvents s p a Tau t es
  no_hidden_body a es none test is u made = absurd (none u made)

  pub no_hidden_test : (a : EventSet) (es : List Event) (c : Cause) → event_test s a ≡ Err c → AreHiddenEvents s p a Tau t es
  no_hidden_test a es c is test known u made = let both : Err c ≡ Ok test = sym is ∙ known in absurd (cc both)

  pub no_renamed_body : (rs : List RenamingPair) (f : Event) (es : List Event) → IsBody (λ v. Renaming v rs) t None → AreRenamedEvents s p rs (Ev f) t es
  no_renamed_body rs f es none u made = absurd (none u made)

  pub no_renamed_images : (rs : List RenamingPair) (f : Event) (es : List Event) → es ≡ [] → (c : Cause) → renaming s rs ≡ Err c → AreRenamedEvents s p rs (Ev f) t es
  no_renamed_images rs f es none c is u made = record {
    passing = λ e has. absurd (contains_none e (let P : List Event → Type 0 = λ gs. Contains gs e in subst P none has));
    every = λ clear within e image step. absurd (contains_none f (let P : List Event → Type 0 = λ gs. Contains gs f in subst P (ap (λ r. images_by r e) is) image));
  }
