-- What is told of the step of a process whose events are hidden or renamed, by what is told of its body's steps.
use Rattle.std.proofs.Common.{◌≡◌, Bool, not, Contains, List, refl, sym, ◌∙◌, ap, subst, arith, Some, None, Ok, Err, IsTrue}
use Rattle.std.specs.Result.{result_err}
use Rattle.theory_syntax.specs.Value.{Event, Action, Tau, Tick, Ev}
use Rattle.theory_syntax.specs.Process.{EventSet, RenamingPair, Process, Hiding, Renaming, Script}
use Rattle.theory_semantics.specs.Meaning.Evaluation.{Cause}
use Rattle.theory_semantics.specs.Meaning.Events.{event_test, images, renaming}
use Rattle.theory_semantics.specs.Meaning.Faults.{cause_in}
use Rattle.theory_semantics.specs.Meaning.Transitions.{RuleStep, hiding_tau, hiding_hidden, hiding_event, hiding_tick, renaming_tau, renaming_event, renaming_tick}
use Rattle.theory_origins.specs.Origin.{InBody, Hides, Renames, Origin, Below, ComesFrom}
use Rattle.theory_origins.specs.Telling.{NoneThrough, Tells, TellsUnder, TellsWhere}
use Rattle.theory_origins.proofs.Ending.{ends_by_tick}
use Rattle.theory_origins.proofs.Telling.{none_second, to_target, within_by}
use Rattle.theory_origins.proofs.TellingTogether.{err_cause, false_of, has_is, not_of, where_none}

module _ (s : Script) (p : Process) (a : EventSet) (test : Event → Bool) (is : event_test s a ≡ Ok test) where
  hiding_clear : cause_in s (Hiding p a) ≡ None → cause_in s p ≡ None
  hiding_clear clear = none_second (result_err (event_test s a)) (cause_in s p) clear

  pub hides_none : (t : Process) → TellsUnder s (λ u. Hiding u a) p Tau t None → NoneThrough s (λ u. Hiding u a) (λ e. IsTrue (test e)) p t → Tells s (Hiding p a) Tau t None
  hides_none t h k clear within (hiding_tau {t = u} step) = h (hiding_clear clear) u refl (within_by u (Hiding u a) (omega arith) (omega arith) within) step
  hides_none t h k clear within (hiding_hidden {t = u} {e = e} hidden step) =
      k (hiding_clear clear) e u (sym (has_is s a test is e) ∙ hidden) refl (within_by u (Hiding u a) (omega arith) (omega arith) within) step

  pub hides_tau_comes : (t : Process) (o : Origin) → TellsUnder s (λ u. Hiding u a) p Tau t (Some o) → ComesFrom s (Hiding p a) Tau t (Below InBody o)
  hides_tau_comes t o h = to_target h.1 (hiding_tau h.2.0, ap (Below InBody) h.2.1)

  pub hides_event_comes : (e : Event) (t : Process) (o : Origin) → IsTrue (test e) → TellsUnder s (λ u. Hiding u a) p (Ev e) t (Some o) → ComesFrom s (Hiding p a) Tau t (Below (Hides e) o)
  hides_event_comes e t o hidden h = to_target h.1 (hiding_hidden (has_is s a test is e ∙ hidden) h.2.0, ap (Below (Hides e)) h.2.1)

  pub seen_none : (e : Event) (t : Process) → TellsWhere (not (test e)) (TellsUnder s (λ u. Hiding u a) p (Ev e) t) None → Tells s (Hiding p a) (Ev e) t None
  seen_none e t h clear within (hiding_event {t = u} seen step) =
      where_none (not (test e)) (TellsUnder s (λ u. Hiding u a) p (Ev e) t) h (not_of (test e) (sym (has_is s a test is e) ∙ seen)) (hiding_clear clear) u refl
      (within_by u (Hiding u a) (omega arith) (omega arith) within) step

  pub seen_comes : (e : Event) (t : Process) (o : Origin) → IsTrue (not (test e)) → TellsUnder s (λ u. Hiding u a) p (Ev e) t (Some o) → ComesFrom s (Hiding p a) (Ev e) t (Below InBody o)
  seen_comes e t o seen h = to_target h.1 (hiding_event (has_is s a test is e ∙ false_of (test e) seen) h.2.0, ap (Below InBody) h.2.1)

module _ (s : Script) (p : Process) (a : EventSet) where
  pub hiding_no_end : (t : Process) → Tells s p Tick t None → Tells s (Hiding p a) Tick t None
  hiding_no_end t h clear within (hiding_tick {t = u} step) =
      h (none_second (result_err (event_test s a)) (cause_in s p) clear) within (let P : Process → Type 0 = λ w. RuleStep s p Tick w in subst P (ends_by_tick s p u step) step)

  pub hiding_ends : (t : Process) (o : Origin) → ComesFrom s p Tick t o → ComesFrom s (Hiding p a) Tick t (Below InBody o)
  hiding_ends t o h = to_target (ends_by_tick s p t h.0) (hiding_tick h.0, ap (Below InBody) h.1)

pub hiding_stuck : (s : Script) (p : Process) (a : EventSet) (c : Cause) (x : Action) (t : Process) → event_test s a ≡ Err c → Tells s (Hiding p a) x t None
hiding_stuck s p a c x t is clear within step = err_cause s (event_test s a) c (cause_in s p) is clear

module _ (s : Script) (p : Process) (rs : List RenamingPair) where
  renaming_clear : cause_in s (Renaming p rs) ≡ None → cause_in s p ≡ None
  renaming_clear clear = none_second (result_err (renaming s rs)) (cause_in s p) clear

  pub renaming_no_tau : (t : Process) → TellsUnder s (λ u. Renaming u rs) p Tau t None → Tells s (Renaming p rs) Tau t None
  renaming_no_tau t h clear within (renaming_tau {t = u} step) = h (renaming_clear clear) u refl (within_by u (Renaming u rs) (omega arith) (omega arith) within) step

  pub renamed_tau_comes : (t : Process) (o : Origin) → TellsUnder s (λ u. Renaming u rs) p Tau t (Some o) → ComesFrom s (Renaming p rs) Tau t (Below InBody o)
  renamed_tau_comes t o h = to_target h.1 (renaming_tau h.2.0, ap (Below InBody) h.2.1)

  pub renamed_comes : (e f : Event) (t : Process) (o : Origin) → Contains (images s rs e) f → TellsUnder s (λ u. Renaming u rs) p (Ev e) t (Some o) → ComesFrom s (Renaming p rs) (Ev f) t (Below (Renames e f) o)
  renamed_comes e f t o image h = to_target h.1 (renaming_event image h.2.0, ap (Below (Renames e f)) h.2.1)

  pub renaming_no_event : (f : Event) (t : Process) → NoneThrough s (λ u. Renaming u rs) (λ e. Contains (images s rs e) f) p t → Tells s (Renaming p rs) (Ev f) t None
  renaming_no_event f t h clear within (renaming_event {t = u} {e = e} image step) =
      h (renaming_clear clear) e u image refl (within_by u (Renaming u rs) (omega arith) (omega arith) within) step

  pub renaming_no_end : (t : Process) → Tells s p Tick t None → Tells s (Renaming p rs) Tick t None
  renaming_no_end t h clear within (renaming_tick {t = u} step) = h (renaming_clear clear) within (let P : Process → Type 0 = λ w. RuleStep s p Tick w in subst P (ends_by_tick s p u step) step)

  pub renaming_ends : (t : Process) (o : Origin) → ComesFrom s p Tick t o → ComesFrom s (Renaming p rs) Tick t (Below InBody o)
  renaming_ends t o h = to_target (ends_by_tick s p t h.0) (renaming_tick h.0, ap (Below InBody) h.1)

  pub renaming_stuck : (c : Cause) (x : Action) (t : Process) → renaming s rs ≡ Err c → Tells s (Renaming p rs) x t None
  renaming_stuck c x t is clear within step = err_cause s (renaming s rs) c (cause_in s p) is clear
