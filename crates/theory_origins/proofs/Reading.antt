-- What is read off the rules that give a step.
use Rattle.std.proofs.Common.{◌≡◌, refl}
use Rattle.theory_syntax.specs.Value.{Action}
use Rattle.theory_syntax.specs.Process.{Process, Script}
use Rattle.theory_semantics.specs.Meaning.Transitions.{RuleStep, skip, prefix, call, guard, if_true, if_false, external_tau_left, external_tau_right, external_left, external_right, internal_left, internal_right, sequential, sequential_tick, interleaving_left, interleaving_right, interleaving_tick_left, interleaving_tick_right, interleaving_tick, interrupt_left, interrupt_tick, interrupt_tau_right, interrupt_right, generalised_left, generalised_right, generalised_both, generalised_tick_left, generalised_tick_right, generalised_tick, alphabetised_left, alphabetised_right, alphabetised_both, alphabetised_tick_left, alphabetised_tick_right, alphabetised_tick, hiding_tau, hiding_hidden, hiding_event, hiding_tick, renaming_tau, renaming_event, renaming_tick, replicated_external, replicated_internal, replicated_interleaving, sliding_tau, sliding_left, sliding_away}
use Rattle.theory_origins.specs.Origin.{origin}
use Rattle.theory_origins.specs.Action.{action_of}

-- the origin tells the action
pub tells_action : {s : Script} {p t : Process} {x : Action} (h : RuleStep s p x t) → action_of (origin h) ≡ x
tells_action skip = refl
tells_action (prefix all m is has) = refl
tells_action (call is) = refl
tells_action (guard is h) = tells_action h
tells_action (if_true is h) = tells_action h
tells_action (if_false is h) = tells_action h
tells_action (external_tau_left h) = tells_action h
tells_action (external_tau_right h) = tells_action h
tells_action (external_left v h) = tells_action h
tells_action (external_right v h) = tells_action h
tells_action internal_left = refl
tells_action internal_right = refl
tells_action (sequential v h) = tells_action h
tells_action (sequential_tick h) = refl
tells_action (interleaving_left v h) = tells_action h
tells_action (interleaving_right v h) = tells_action h
tells_action (interleaving_tick_left h) = refl
tells_action (interleaving_tick_right h) = refl
tells_action interleaving_tick = refl
tells_action (interrupt_left v h) = tells_action h
tells_action (interrupt_tick h) = tells_action h
tells_action (interrupt_tau_right h) = tells_action h
tells_action (interrupt_right v h) = tells_action h
tells_action (generalised_left v h) = tells_action h
tells_action (generalised_right v h) = tells_action h
tells_action (generalised_both v h k) = tells_action h
tells_action (generalised_tick_left h) = refl
tells_action (generalised_tick_right h) = refl
tells_action generalised_tick = refl
tells_action (alphabetised_left v h) = tells_action h
tells_action (alphabetised_right v h) = tells_action h
tells_action (alphabetised_both v w h k) = tells_action h
tells_action (alphabetised_tick_left h) = refl
tells_action (alphabetised_tick_right h) = refl
tells_action alphabetised_tick = refl
tells_action (hiding_tau h) = tells_action h
tells_action (hiding_hidden v h) = refl
tells_action (hiding_event v h) = tells_action h
tells_action (hiding_tick h) = tells_action h
tells_action (renaming_tau h) = tells_action h
tells_action (renaming_event v h) = refl
tells_action (renaming_tick h) = tells_action h
tells_action (replicated_external vs is h) = tells_action h
tells_action (replicated_internal v vs is h) = tells_action h
tells_action (replicated_interleaving vs is h) = tells_action h
tells_action (sliding_tau h) = tells_action h
tells_action (sliding_left v h) = tells_action h
tells_action sliding_away = refl
