-- Each tick leads to the process that has ended.
use Rattle.std.proofs.Common.{◌≡◌, refl}
use Rattle.theory_syntax.specs.Value.{Tick}
use Rattle.theory_syntax.specs.Process.{Process, Omega, Script}
use Rattle.theory_semantics.specs.Meaning.Transitions.{RuleStep, skip, guard, if_true, if_false, external_left, external_right, sequential, interleaving_left, interleaving_right, interleaving_tick, interrupt_left, interrupt_tick, interrupt_right, generalised_left, generalised_right, generalised_tick, alphabetised_left, alphabetised_right, alphabetised_tick, hiding_tick, renaming_tick, replicated_external, replicated_internal, replicated_interleaving, sliding_left}

pub ends_by_tick : (s : Script) (p t : Process) → RuleStep s p Tick t → t ≡ Omega
ends_by_tick s p t skip = refl
ends_by_tick s p t (guard is h) = ends_by_tick s _ t h
ends_by_tick s p t (if_true is h) = ends_by_tick s _ t h
ends_by_tick s p t (if_false is h) = ends_by_tick s _ t h
ends_by_tick s p t (external_left v h) = ends_by_tick s _ t h
ends_by_tick s p t (external_right v h) = ends_by_tick s _ t h
ends_by_tick s p t (sequential v h) = absurd v
ends_by_tick s p t (interleaving_left v h) = absurd v
ends_by_tick s p t (interleaving_right v h) = absurd v
ends_by_tick s p t interleaving_tick = refl
ends_by_tick s p t (interrupt_left v h) = absurd v
ends_by_tick s p t (interrupt_tick h) = refl
ends_by_tick s p t (interrupt_right v h) = ends_by_tick s _ t h
ends_by_tick s p t (generalised_left v h) = absurd v
ends_by_tick s p t (generalised_right v h) = absurd v
ends_by_tick s p t generalised_tick = refl
ends_by_tick s p t (alphabetised_left v h) = absurd v
ends_by_tick s p t (alphabetised_right v h) = absurd v
ends_by_tick s p t alphabetised_tick = refl
ends_by_tick s p t (hiding_tick h) = refl
ends_by_tick s p t (renaming_tick h) = refl
ends_by_tick s p t (replicated_external vs is h) = ends_by_tick s _ t h
ends_by_tick s p t (replicated_internal v vs is h) = ends_by_tick s _ t h
ends_by_tick s p t (replicated_interleaving vs is h) = ends_by_tick s _ t h
ends_by_tick s p t (sliding_left v h) = ends_by_tick s _ t h
