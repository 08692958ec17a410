-- The causes of closed terms are no misfits, and steps and runs keep terms closed.
use Rattle.std.proofs.Common.{ℕ, zero, suc, Bool, true, false, List, [], ◌∷◌, Option, None, Result, Ok, Err, subst, Contains, arith}
use Rattle.std.specs.Prelude.{⊤}
use Rattle.std.specs.Option.{option_or}
use Rattle.std.specs.Result.{result_err}
use Rattle.theory_syntax.specs.Value.{Value, Action}
use Rattle.theory_syntax.specs.Process.{Process, Stop, Skip, Omega, Call, Prefix, Guard, If, ExternalChoice, InternalChoice, Sequential, Interleaving, Interrupt, GeneralisedParallel, AlphabetisedParallel, Hiding, Renaming, ReplicatedExternalChoice, ReplicatedInternalChoice, ReplicatedInterleaving, SlidingChoice, Script}
use Rattle.theory_semantics.specs.Meaning.Evaluation.{Cause}
use Rattle.theory_semantics.specs.Meaning.Substitution.{put}
use Rattle.theory_semantics.specs.Meaning.Events.{prefix_communications, condition, elements, event_test, renaming, called, instances}
use Rattle.theory_semantics.specs.Meaning.Faults.{in_branch, first_cause, in_instances, in_internal_chain, cause_within}
use Rattle.theory_semantics.specs.Meaning.Transitions.{RuleStep, skip, prefix, call, guard, if_true, if_false, external_tau_left, external_tau_right, external_left, external_right, internal_left, internal_right, sequential, sequential_tick, interleaving_left, interleaving_right, interleaving_tick_left, interleaving_tick_right, interleaving_tick, interrupt_left, interrupt_tick, interrupt_tau_right, interrupt_right, generalised_left, generalised_right, generalised_both, generalised_tick_left, generalised_tick_right, generalised_tick, alphabetised_left, alphabetised_right, alphabetised_both, alphabetised_tick_left, alphabetised_tick_right, alphabetised_tick, hiding_tau, hiding_hidden, hiding_event, hiding_tick, renaming_tau, renaming_event, renaming_tick, replicated_external, replicated_internal, replicated_interleaving, sliding_tau, sliding_left, sliding_away}
use Rattle.theory_semantics.specs.Meaning.Runs.{Run}
use Rattle.theory_semantics.specs.Kinds.Kind.{Kinds, InTurn, Each}
use Rattle.theory_semantics.specs.Kinds.Processes.{IsClosedTerm}
use Rattle.theory_semantics.specs.Kinds.Events.{scope_behind}
use Rattle.theory_semantics.specs.Kinds.Values.{AreMembersOf}
use Rattle.theory_semantics.specs.Kinds.Scripts.{IsWellKindedEquation, SetsHaveKinds}
use Rattle.theory_semantics.proofs.Misfits.{IsProperOrNone, Gives, gives_value, or_proper, err_proper}
use Rattle.theory_semantics.proofs.KindedPutting.{put_kinded}
use Rattle.theory_semantics.proofs.KindedTerms.{GivesAny, condition_any, elements_kind, prefix_fit, event_test_any, renaming_any, instances_closed, called_closed}
use Rattle.theory_semantics.proofs.Settling.{chain_closed, instances_of, settled_closed}

pub each_member : {A : Type 0} (P : A → Type 0) (xs : List A) (x : A) → Each P xs → Contains xs x → P x
each_member P [] x h (k, within, e) = absurd (omega (arith, within))
each_member P (y ∷ ys) x h (zero, within, e) = subst P e h.0
each_member P (y ∷ ys) x h (suc k, within, e) = each_member P ys x h.1 (k, omega arith, e)

branch_proper : (r : Result Bool Cause) (a b : Option Cause) → GivesAny r → IsProperOrNone a → IsProperOrNone b → IsProperOrNone (in_branch r a b)
branch_proper (Ok true) a b h f g = f
branch_proper (Ok false) a b h f g = g
branch_proper (Err c) a b h f g = h

instances_proper : (P : List Value → Type 0) (r : Result (List Value) Cause) (look : List Value → Option Cause) → Gives P r →
    ((vs : List Value) → P vs → IsProperOrNone (look vs)) → IsProperOrNone (in_instances r look)
instances_proper P (Ok vs) look h g = g vs h
instances_proper P (Err c) look h g = h

module _ (script : Script) (kinds : Kinds) (sets : SetsHaveKinds script kinds) (equations : InTurn (IsWellKindedEquation script kinds) script.equations kinds.parameters) where
  first_proper : (look : Process → Option Cause) (ps : List Process) → ((p : Process) → IsClosedTerm script kinds p → IsProperOrNone (look p)) →
      Each (IsClosedTerm script kinds) ps → IsProperOrNone (first_cause look ps)
  first_proper look [] f h = tt
  first_proper look (p ∷ ps) f h = or_proper (look p) (first_cause look ps) (f p h.0) (first_proper look ps f h.1)

  internal_proper : (look : Process → Option Cause) (ps : List Process) → ((p : Process) → IsClosedTerm script kinds p → IsProperOrNone (look p)) →
      Each (IsClosedTerm script kinds) ps → IsProperOrNone (in_internal_chain look ps)
  internal_proper look [] f h = tt
  internal_proper look (p ∷ []) f h = f p h.0
  internal_proper look (p ∷ q ∷ qs) f h = tt

  pub proper_within : (n : ℕ) (p : Process) → IsClosedTerm script kinds p → IsProperOrNone (cause_within n script p)
  proper_within zero p h = tt
  proper_within (suc n) Stop h = tt
  proper_within (suc n) Skip h = tt
  proper_within (suc n) Omega h = tt
  proper_within (suc n) (Call k es) h = err_proper (IsClosedTerm script kinds) (called script k es) (called_closed script kinds sets equations k es h.0 h.1 h.2)
  proper_within (suc n) (Prefix c fs p) h = err_proper _ (prefix_communications script c fs) (prefix_fit script kinds sets c fs h.0 h.1 h.2)
  proper_within (suc n) (Guard e p) h = branch_proper (condition script.types e) (cause_within n script p) None (condition_any script kinds sets e h.0) (proper_within n p h.1) tt
  proper_within (suc n) (If e p q) h = branch_proper (condition script.types e) (cause_within n script p) (cause_within n script q)
      (condition_any script kinds sets e h.0) (proper_within n p h.1) (proper_within n q h.2)
  proper_within (suc n) (ExternalChoice p q) h = or_proper (cause_within n script p) (cause_within n script q) (proper_within n p h.0) (proper_within n q h.1)
  proper_within (suc n) (InternalChoice p q) h = tt
  proper_within (suc n) (Sequential p q) h = proper_within n p h.0
  proper_within (suc n) (Interleaving p q) h = or_proper (cause_within n script p) (cause_within n script q) (proper_within n p h.0) (proper_within n q h.1)
  proper_within (suc n) (Interrupt p q) h = or_proper (cause_within n script p) (cause_within n script q) (proper_within n p h.0) (proper_within n q h.1)
  proper_within (suc n) (GeneralisedParallel p a q) h =
      or_proper (result_err (event_test script a)) (option_or (cause_within n script p) (cause_within n script q)) (err_proper (λ f. ⊤) (event_test script a) (event_test_any script kinds sets a h.1))
      (or_proper (cause_within n script p) (cause_within n script q) (proper_within n p h.0) (proper_within n q h.2))
  proper_within (suc n) (AlphabetisedParallel p a b q) h =
      or_proper (result_err (event_test script a)) (option_or (result_err (event_test script b)) (option_or (cause_within n script p) (cause_within n script q)))
      (err_proper (λ f. ⊤) (event_test script a) (event_test_any script kinds sets a h.1))
      (or_proper (result_err (event_test script b)) (option_or (cause_within n script p) (cause_within n script q)) (err_proper (λ f. ⊤) (event_test script b) (event_test_any script kinds sets b h.2))
      (or_proper (cause_within n script p) (cause_within n script q) (proper_within n p h.0) (proper_within n q h.3)))
  proper_within (suc n) (Hiding p a) h = or_proper (result_err (event_test script a)) (cause_within n script p)
      (err_proper (λ f. ⊤) (event_test script a) (event_test_any script kinds sets a h.1)) (proper_within n p h.0)
  proper_within (suc n) (Renaming p rs) h = or_proper (result_err (renaming script rs)) (cause_within n script p)
      (err_proper (λ f. ⊤) (renaming script rs) (renaming_any script kinds sets rs h.1)) (proper_within n p h.0)
  proper_within (suc n) (ReplicatedExternalChoice x e p) h =
      instances_proper (λ vs. AreMembersOf script.types kinds vs h.0) (elements script.types e) _ (elements_kind script kinds sets e h.0 h.1)
      (λ vs g. first_proper (cause_within n script) (instances x p vs) (proper_within n) (instances_closed script kinds sets x p h.0 vs h.2 g.0))
  proper_within (suc n) (ReplicatedInternalChoice x e p) h =
      instances_proper (λ vs. AreMembersOf script.types kinds vs h.0) (elements script.types e) _ (elements_kind script kinds sets e h.0 h.1)
      (λ vs g. internal_proper (cause_within n script) (instances x p vs) (proper_within n) (instances_closed script kinds sets x p h.0 vs h.2 g.0))
  proper_within (suc n) (ReplicatedInterleaving x e p) h =
      instances_proper (λ vs. AreMembersOf script.types kinds vs h.0) (elements script.types e) _ (elements_kind script kinds sets e h.0 h.1)
      (λ vs g. first_proper (cause_within n script) (instances x p vs) (proper_within n) (instances_closed script kinds sets x p h.0 vs h.2 g.0))
  proper_within (suc n) (SlidingChoice p q) h = or_proper (cause_within n script p) (cause_within n script q) (proper_within n p h.0) (proper_within n q h.1)

  -- ---- steps

  pub step_closed : (t : Process) (x : Action) (u : Process) → RuleStep script t x u → IsClosedTerm script kinds t → IsClosedTerm script kinds u
  step_closed t x u skip h = tt
  step_closed t x u (prefix {c = c} {fs = fs} {p = p} all m e has) h =
      let fits = gives_value _ (prefix_communications script c fs) all (prefix_fit script kinds sets c fs h.0 h.1 h.2) e in
      settled_closed script kinds sets equations (put m.bindings p) (put_kinded script kinds m.bindings (scope_behind [] fs h.0) [] p (each_member _ all m fits has) h.3)
  step_closed t x u (call {n = n} {es = es} {t = body} e) h =
      settled_closed script kinds sets equations body (gives_value (IsClosedTerm script kinds) (called script n es) body (called_closed script kinds sets equations n es h.0 h.1 h.2) e)
  step_closed t x u (guard e step) h = step_closed _ x u step h.1
  step_closed t x u (if_true e step) h = step_closed _ x u step h.1
  step_closed t x u (if_false e step) h = step_closed _ x u step h.2
  step_closed t x u (external_tau_left step) h = (step_closed _ _ _ step h.0, h.1)
  step_closed t x u (external_tau_right step) h = (h.0, step_closed _ _ _ step h.1)
  step_closed t x u (external_left v step) h = step_closed _ x u step h.0
  step_closed t x u (external_right v step) h = step_closed _ x u step h.1
  step_closed t x u (internal_left {p = p}) h = settled_closed script kinds sets equations p h.0
  step_closed t x u (internal_right {q = q}) h = settled_closed script kinds sets equations q h.1
  step_closed t x u (sequential v step) h = (step_closed _ _ _ step h.0, h.1)
  step_closed t x u (sequential_tick {q = q} step) h = settled_closed script kinds sets equations q h.1
  step_closed t x u (interleaving_left v step) h = (step_closed _ _ _ step h.0, h.1)
  step_closed t x u (interleaving_right v step) h = (h.0, step_closed _ _ _ step h.1)
  step_closed t x u (interleaving_tick_left step) h = (tt, h.1)
  step_closed t x u (interleaving_tick_right step) h = (h.0, tt)
  step_closed t x u interleaving_tick h = tt
  step_closed t x u (interrupt_left v step) h = (step_closed _ _ _ step h.0, h.1)
  step_closed t x u (interrupt_tick step) h = tt
  step_closed t x u (interrupt_tau_right step) h = (h.0, step_closed _ _ _ step h.1)
  step_closed t x u (interrupt_right v step) h = step_closed _ x u step h.1
  step_closed t x u (generalised_left v step) h = (step_closed _ _ _ step h.0, h.1, h.2)
  step_closed t x u (generalised_right v step) h = (h.0, h.1, step_closed _ _ _ step h.2)
  step_closed t x u (generalised_both v left right) h = (step_closed _ _ _ left h.0, h.1, step_closed _ _ _ right h.2)
  step_closed t x u (generalised_tick_left step) h = (tt, h.1, h.2)
  step_closed t x u (generalised_tick_right step) h = (h.0, h.1, tt)
  step_closed t x u generalised_tick h = tt
  step_closed t x u (alphabetised_left v step) h = (step_closed _ _ _ step h.0, h.1, h.2, h.3)
  step_closed t x u (alphabetised_right v step) h = (h.0, h.1, h.2, step_closed _ _ _ step h.3)
  step_closed t x u (alphabetised_both v w left right) h = (step_closed _ _ _ left h.0, h.1, h.2, step_closed _ _ _ right h.3)
  step_closed t x u (alphabetised_tick_left step) h = (tt, h.1, h.2, h.3)
  step_closed t x u (alphabetised_tick_right step) h = (h.0, h.1, h.2, tt)
  step_closed t x u alphabetised_tick h = tt
  step_closed t x u (hiding_tau step) h = (step_closed _ _ _ step h.0, h.1)
  step_closed t x u (hiding_hidden v step) h = (step_closed _ _ _ step h.0, h.1)
  step_closed t x u (hiding_event v step) h = (step_closed _ _ _ step h.0, h.1)
  step_closed t x u (hiding_tick step) h = tt
  step_closed t x u (renaming_tau step) h = (step_closed _ _ _ step h.0, h.1)
  step_closed t x u (renaming_event v step) h = (step_closed _ _ _ step h.0, h.1)
  step_closed t x u (renaming_tick step) h = tt
  step_closed t x u (replicated_external {n = n} {e = e} {p = p} vs is step) h =
      step_closed _ x u step (chain_closed script kinds sets equations ExternalChoice (λ p q g i. (g, i)) Stop (instances n p vs) tt (instances_of script kinds sets equations n e p h.0 vs h.1 h.2 is))
  step_closed t x u (replicated_internal {n = n} {e = e} {p = p} v vs is step) h =
      step_closed _ x u step (chain_closed script kinds sets equations InternalChoice (λ p q g i. (g, i)) Stop (instances n p (v ∷ vs)) tt (instances_of script kinds sets equations n e p h.0 (v ∷ vs) h.1 h.2 is))
  step_closed t x u (replicated_interleaving {n = n} {e = e} {p = p} vs is step) h =
      step_closed _ x u step (chain_closed script kinds sets equations Interleaving (λ p q g i. (g, i)) Skip (instances n p vs) tt (instances_of script kinds sets equations n e p h.0 vs h.1 h.2 is))
  step_closed t x u (sliding_tau step) h = (step_closed _ _ _ step h.0, h.1)
  step_closed t x u (sliding_left v step) h = step_closed _ x u step h.0
  step_closed t x u (sliding_away {q = q}) h = settled_closed script kinds sets equations q h.1

  pub run_closed : (path : List Action) (t u : Process) → Run script t path u → IsClosedTerm script kinds t → IsClosedTerm script kinds u
  run_closed [] t u e h = subst (IsClosedTerm script kinds) e h
  run_closed (x ∷ path) t u run h = run_closed path run.0 u run.2 (step_closed t x run.0 run.1.1 h)
