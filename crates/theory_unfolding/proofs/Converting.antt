-- A step in one reading is one in the other, by the same rules. What it leads to differs at the base of the rules alone.
use Rattle.std.proofs.Common.{List, sym, ◌∙◌, subst, Contains, IsTrue, IsFalse}
use Rattle.theory_syntax.specs.Value.{Event, Action, Tau, Tick, Ev}
use Rattle.theory_syntax.specs.Process.{EventSet, RenamingPair, Process, Omega, ExternalChoice, Sequential, Interleaving, Interrupt, GeneralisedParallel, AlphabetisedParallel, Hiding, Renaming, SlidingChoice, Unfolding, Script}
use Rattle.theory_semantics.specs.Meaning.Substitution.{put}
use Rattle.theory_semantics.specs.Meaning.Events.{has_event, images}
use Rattle.theory_semantics.specs.Meaning.Unfolding.{settled}
use Rattle.theory_semantics.specs.Meaning.Transitions.{IsOutside, IsWithinOnly, RuleStep, skip, prefix, call, guard, if_true, if_false, external_tau_left, external_tau_right, external_left, external_right, internal_left, internal_right, sequential, sequential_tick, interleaving_left, interleaving_right, interleaving_tick_left, interleaving_tick_right, interleaving_tick, interrupt_left, interrupt_tick, interrupt_tau_right, interrupt_right, generalised_left, generalised_right, generalised_both, generalised_tick_left, generalised_tick_right, generalised_tick, alphabetised_left, alphabetised_right, alphabetised_both, alphabetised_tick_left, alphabetised_tick_right, alphabetised_tick, hiding_tau, hiding_hidden, hiding_event, hiding_tick, renaming_tau, renaming_event, renaming_tick, replicated_external, replicated_internal, replicated_interleaving, sliding_tau, sliding_left, sliding_away}
use Rattle.theory_syntax.specs.Readings.{reading}
use Rattle.theory_unfolding.proofs.Readings.{same_has, same_images}

-- holds of what operators make of sides of which it holds
pub record IsKept (R : Process → Process → Type 0) : Type 0 where
  pub same : (p : Process) → R p p
  pub externals : (p q v w : Process) → R p v → R q w → R (ExternalChoice p q) (ExternalChoice v w)
  pub sequentials : (p q v : Process) → R p v → R (Sequential p q) (Sequential v q)
  pub interleavings : (p q v w : Process) → R p v → R q w → R (Interleaving p q) (Interleaving v w)
  pub interrupts : (p q v w : Process) → R p v → R q w → R (Interrupt p q) (Interrupt v w)
  pub generaliseds : (p q v w : Process) (a : EventSet) → R p v → R q w → R (GeneralisedParallel p a q) (GeneralisedParallel v a w)
  pub alphabetiseds : (p q v w : Process) (a b : EventSet) → R p v → R q w → R (AlphabetisedParallel p a b q) (AlphabetisedParallel v a b w)
  pub hidings : (p v : Process) (a : EventSet) → R p v → R (Hiding p a) (Hiding v a)
  pub renamings : (p v : Process) (rs : List RenamingPair) → R p v → R (Renaming p rs) (Renaming v rs)
  pub slides : (p q v : Process) → R p v → R (SlidingChoice p q) (SlidingChoice v q)

module _ (s : Script) (r o : Unfolding) where
  pub same_true : (a : EventSet) (e : Event) → IsTrue (has_event (reading r s) a e) → IsTrue (has_event (reading o s) a e)
  same_true a e h = sym (same_has s r o a e) ∙ h

  pub same_false : (a : EventSet) (e : Event) → IsFalse (has_event (reading r s) a e) → IsFalse (has_event (reading o s) a e)
  same_false a e h = sym (same_has s r o a e) ∙ h

  pub same_outside : (a : EventSet) (x : Action) → IsOutside (reading r s) a x → IsOutside (reading o s) a x
  same_outside a Tau h = h
  same_outside a Tick h = h
  same_outside a (Ev e) h = same_false a e h

  pub same_within_only : (a b : EventSet) (x : Action) → IsWithinOnly (reading r s) a b x → IsWithinOnly (reading o s) a b x
  same_within_only a b Tau h = h
  same_within_only a b Tick h = h
  same_within_only a b (Ev e) h = (same_true a e h.0, same_false b e h.1)

  pub same_image : (rs : List RenamingPair) (e f : Event) → Contains (images (reading r s) rs e) f → Contains (images (reading o s) rs e) f
  same_image rs e f h = let P : List Event → Type 0 = λ l. Contains l f in subst P (same_images s r o rs e) h

  module _ (R : Process → Process → Type 0) (kept : IsKept R) (base : (p : Process) → R (settled (reading r s) p) (settled (reading o s) p)) where
    pub converted : (t : Process) (x : Action) (w : Process) → RuleStep (reading r s) t x w → (u : Process) × RuleStep (reading o s) t x u × R w u
    converted t x w skip = (Omega, skip, kept.same Omega)
    converted t x w (prefix {p = p} all m is has) = (settled (reading o s) (put m.bindings p), prefix all m is has, base (put m.bindings p))
    converted t x w (call {t = b} is) = (settled (reading o s) b, call is, base b)
    converted t x w (guard is h) = let k = converted _ x w h in (k.0, guard is k.1, k.2)
    converted t x w (if_true is h) = let k = converted _ x w h in (k.0, if_true is k.1, k.2)
    converted t x w (if_false is h) = let k = converted _ x w h in (k.0, if_false is k.1, k.2)
    converted t x w (external_tau_left {q = q} h) = let k = converted _ _ _ h in (ExternalChoice k.0 q, external_tau_left k.1, kept.externals _ _ _ _ k.2 (kept.same q))
    converted t x w (external_tau_right {p = p} h) = let k = converted _ _ _ h in (ExternalChoice p k.0, external_tau_right k.1, kept.externals _ _ _ _ (kept.same p) k.2)
    converted t x w (external_left y h) = let k = converted _ x w h in (k.0, external_left y k.1, k.2)
    converted t x w (external_right y h) = let k = converted _ x w h in (k.0, external_right y k.1, k.2)
    converted t x w (internal_left {p = p}) = (settled (reading o s) p, internal_left, base p)
    converted t x w (internal_right {q = q}) = (settled (reading o s) q, internal_right, base q)
    converted t x w (sequential {q = q} y h) = let k = converted _ _ _ h in (Sequential k.0 q, sequential y k.1, kept.sequentials _ _ _ k.2)
    converted t x w (sequential_tick {q = q} h) = let k = converted _ _ _ h in (settled (reading o s) q, sequential_tick k.1, base q)
    converted t x w (interleaving_left {q = q} y h) = let k = converted _ _ _ h in (Interleaving k.0 q, interleaving_left y k.1, kept.interleavings _ _ _ _ k.2 (kept.same q))
    converted t x w (interleaving_right {p = p} y h) = let k = converted _ _ _ h in (Interleaving p k.0, interleaving_right y k.1, kept.interleavings _ _ _ _ (kept.same p) k.2)
    converted t x w (interleaving_tick_left {q = q} h) = let k = converted _ _ _ h in (Interleaving Omega q, interleaving_tick_left k.1, kept.same (Interleaving Omega q))
    converted t x w (interleaving_tick_right {p = p} h) = let k = converted _ _ _ h in (Interleaving p Omega, interleaving_tick_right k.1, kept.same (Interleaving p Omega))
    converted t x w interleaving_tick = (Omega, interleaving_tick, kept.same Omega)
    converted t x w (interrupt_left {q = q} y h) = let k = converted _ _ _ h in (Interrupt k.0 q, interrupt_left y k.1, kept.interrupts _ _ _ _ k.2 (kept.same q))
    converted t x w (interrupt_tick h) = let k = converted _ _ _ h in (Omega, interrupt_tick k.1, kept.same Omega)
    converted t x w (interrupt_tau_right {p = p} h) = let k = converted _ _ _ h in (Interrupt p k.0, interrupt_tau_right k.1, kept.interrupts _ _ _ _ (kept.same p) k.2)
    converted t x w (interrupt_right y h) = let k = converted _ x w h in (k.0, interrupt_right y k.1, k.2)
    converted t x w (generalised_left {q = q} {a = a} y h) =
        let k = converted _ _ _ h in (GeneralisedParallel k.0 a q, generalised_left (same_outside a x y) k.1, kept.generaliseds _ _ _ _ a k.2 (kept.same q))
    converted t x w (generalised_right {p = p} {a = a} y h) =
        let k = converted _ _ _ h in (GeneralisedParallel p a k.0, generalised_right (same_outside a x y) k.1, kept.generaliseds _ _ _ _ a (kept.same p) k.2)
    converted t x w (generalised_both {a = a} {e = e} y g h) =
        let j = converted _ _ _ g in let k = converted _ _ _ h in (GeneralisedParallel j.0 a k.0, generalised_both (same_true a e y) j.1 k.1, kept.generaliseds _ _ _ _ a j.2 k.2)
    converted t x w (generalised_tick_left {q = q} {a = a} h) = let k = converted _ _ _ h in (GeneralisedParallel Omega a q, generalised_tick_left k.1, kept.same (GeneralisedParallel Omega a q))
    converted t x w (generalised_tick_right {p = p} {a = a} h) = let k = converted _ _ _ h in (GeneralisedParallel p a Omega, generalised_tick_right k.1, kept.same (GeneralisedParallel p a Omega))
    converted t x w generalised_tick = (Omega, generalised_tick, kept.same Omega)
    converted t x w (alphabetised_left {q = q} {a = a} {b = b} y h) =
        let k = converted _ _ _ h in (AlphabetisedParallel k.0 a b q, alphabetised_left (same_within_only a b x y) k.1, kept.alphabetiseds _ _ _ _ a b k.2 (kept.same q))
    converted t x w (alphabetised_right {p = p} {a = a} {b = b} y h) =
        let k = converted _ _ _ h in (AlphabetisedParallel p a b k.0, alphabetised_right (same_within_only b a x y) k.1, kept.alphabetiseds _ _ _ _ a b (kept.same p) k.2)
    converted t x w (alphabetised_both {a = a} {b = b} {e = e} y z g h) =
        let j = converted _ _ _ g in let k = converted _ _ _ h in
        (AlphabetisedParallel j.0 a b k.0, alphabetised_both (same_true a e y) (same_true b e z) j.1 k.1, kept.alphabetiseds _ _ _ _ a b j.2 k.2)
    converted t x w (alphabetised_tick_left {q = q} {a = a} {b = b} h) =
        let k = converted _ _ _ h in (AlphabetisedParallel Omega a b q, alphabetised_tick_left k.1, kept.same (AlphabetisedParallel Omega a b q))
    converted t x w (alphabetised_tick_right {p = p} {a = a} {b = b} h) =
        let k = converted _ _ _ h in (AlphabetisedParallel p a b Omega, alphabetised_tick_right k.1, kept.same (AlphabetisedParallel p a b Omega))
    converted t x w alphabetised_tick = (Omega, alphabetised_tick, kept.same Omega)
    converted t x w (hiding_tau {a = a} h) = let k = converted _ _ _ h in (Hiding k.0 a, hiding_tau k.1, kept.hidings _ _ a k.2)
    converted t x w (hiding_hidden {a = a} {e = e} y h) = let k = converted _ _ _ h in (Hiding k.0 a, hiding_hidden (same_true a e y) k.1, kept.hidings _ _ a k.2)
    converted t x w (hiding_event {a = a} {e = e} y h) = let k = converted _ _ _ h in (Hiding k.0 a, hiding_event (same_false a e y) k.1, kept.hidings _ _ a k.2)
    converted t x w (hiding_tick h) = let k = converted _ _ _ h in (Omega, hiding_tick k.1, kept.same Omega)
    converted t x w (renaming_tau {rs = rs} h) = let k = converted _ _ _ h in (Renaming k.0 rs, renaming_tau k.1, kept.renamings _ _ rs k.2)
    converted t x w (renaming_event {rs = rs} {e = e} {f = f} y h) = let k = converted _ _ _ h in (Renaming k.0 rs, renaming_event (same_image rs e f y) k.1, kept.renamings _ _ rs k.2)
    converted t x w (renaming_tick h) = let k = converted _ _ _ h in (Omega, renaming_tick k.1, kept.same Omega)
    converted t x w (replicated_external vs is h) = let k = converted _ x w h in (k.0, replicated_external vs is k.1, k.2)
    converted t x w (replicated_internal y vs is h) = let k = converted _ x w h in (k.0, replicated_internal y vs is k.1, k.2)
    converted t x w (replicated_interleaving vs is h) = let k = converted _ x w h in (k.0, replicated_interleaving vs is k.1, k.2)
    converted t x w (sliding_tau {q = q} h) = let k = converted _ _ _ h in (SlidingChoice k.0 q, sliding_tau k.1, kept.slides _ _ _ k.2)
    converted t x w (sliding_left y h) = let k = converted _ x w h in (k.0, sliding_left y k.1, k.2)
    converted t x w (sliding_away {q = q}) = (settled (reading o s) q, sliding_away, base q)
