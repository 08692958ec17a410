-- What a firing shows of a term's steps: all of them, and none where it is stuck.
use Rattle.std.proofs.Common.{◌≡◌, [], List, None, Some, true, false, sym, ◌∙◌, Contains}
use Rattle.theory_syntax.specs.Value.{Action}
use Rattle.theory_syntax.specs.Process.{Process, Script}
use Rattle.theory_semantics.specs.Meaning.Evaluation.{Cause}
use Rattle.theory_semantics.specs.Meaning.Transitions.{IsFaulty, IsLarge, itself, by_step, IsNotStuck}
use Rattle.theory_semantics.specs.Meaning.Offers.{CanDo}
use Rattle.theory_semantics.specs.Meaning.Expansions.{IsFired}
use Rattle.theory_semantics.proofs.Rising.{stands_from_Contains}
use Rattle.theory_runs.specs.Layers.{AreSteps}

pub fired_steps : (script : Script) (t : Process) (steps : List (Action × Process)) (offers : List (List Action)) → IsFired script t steps offers → AreSteps script t steps
fired_steps script t steps offers fired x u = (λ step. (fired.each_step x u).0 step.1, λ c. (fired.not_stuck, (fired.each_step x u).1 c))

pub not_both : (script : Script) (t : Process) (c : Cause) → IsFaulty script t c → IsNotStuck script t → ⊥
not_both script t c faulty free = let e : None ≡ Some c = sym free.no_cause ∙ faulty.cause in cc e

pub not_large : (script : Script) (t : Process) → IsLarge script t → IsNotStuck script t → ⊥
not_large script t (itself past) free = let e : false ≡ true = sym past ∙ free.within in cc e
not_large script t (by_step none leads) free = let e : false ≡ true = sym leads.3 ∙ free.targets leads.0 leads.1 leads.2 in cc e

no_steps : (script : Script) (t : Process) → (IsNotStuck script t → ⊥) → AreSteps script t []
no_steps script t stuck x u = (λ step. absurd (stuck step.0), λ c. absurd (cc (stands_from_Contains [] (x, u) c).1))

pub faulty_steps : (script : Script) (t : Process) (c : Cause) → IsFaulty script t c → AreSteps script t []
faulty_steps script t c faulty = no_steps script t (not_both script t c faulty)

pub large_steps : (script : Script) (t : Process) → IsLarge script t → AreSteps script t []
large_steps script t large = no_steps script t (not_large script t large)

-- what a term does, by its steps
pub can_do : (script : Script) (t : Process) (steps : List (Action × Process)) (x : Action) → AreSteps script t steps → CanDo script t x → (u : Process) × Contains steps (x, u)
can_do script t steps x are can = (can.0, (are x can.0).0 can.1)

pub does : (script : Script) (t : Process) (steps : List (Action × Process)) (x : Action) → AreSteps script t steps → ((u : Process) × Contains steps (x, u)) → CanDo script t x
does script t steps x are has = (has.0, (are x has.0).1 has.1)
