-- The ways of conditions and guards, by the truth of the condition.
use Rattle.std.proofs.Common.{◌≡◌, Bool, true, false, cond, IfOk, [], ◌∷◌, refl, sym, ◌∙◌, Some, Result, Ok, Err}
use Rattle.std.specs.declared.vec.Vec.{Vec}
use Rattle.theory_syntax.specs.Value.{Action}
use Rattle.theory_syntax.specs.Expression.{Expression}
use Rattle.theory_syntax.specs.Process.{Process, Guard, If, Script}
use Rattle.theory_semantics.specs.Meaning.Evaluation.{Cause}
use Rattle.theory_semantics.specs.Meaning.Events.{condition}
use Rattle.theory_origins.specs.Origin.{Left, OnBranch, Right, UnderGuard}
use Rattle.theory_origins.specs.Ways.{Through, part}
use Rattle.theory_origins.proofs.LeafWays.{guard_shut_ways, no_branch_ways}
use Rattle.theory_origins.proofs.OperandWays as law
use Rattle.csp_moves.specs.declared.way.Way.{Way}
use Rattle.csp_moves.specs.Way.{AreFoundIn, ways_of}
use Rattle.csp_moves.proofs.Found.{found_in}

module _ {A E : Type 0} (s : Script) (e : Expression) (p q : Process) (x : Action) (t : Process) (r : Result (Vec (Way A) A) E) where
  pub branch_found : (b : Bool) → condition s.types e ≡ Ok b →
      IfOk r (λ ways. ways_of ways ≡ cond b (Through (OnBranch Left) (part p x (Some t)) ∷ []) (Through (OnBranch Right) (part q x (Some t)) ∷ [])) → IfOk r (AreFoundIn s (If e p q) x t)
  branch_found true is ways = found_in s (If e p q) x t r _ (Through (OnBranch Left) (part p x (Some t)) ∷ []) ways refl (law.first_ways s e p q x t is)
  branch_found false is ways = found_in s (If e p q) x t r _ (Through (OnBranch Right) (part q x (Some t)) ∷ []) ways refl (law.second_ways s e p q x t is)

  pub no_branch_found : (c : Cause) → condition s.types e ≡ Err c → IfOk r (λ ways. ways_of ways ≡ []) → IfOk r (AreFoundIn s (If e p q) x t)
  no_branch_found c is ways = found_in s (If e p q) x t r _ [] ways refl (no_branch_ways s x t e p q c is)

module _ {A E : Type 0} (s : Script) (e : Expression) (p : Process) (x : Action) (t : Process) (r : Result (Vec (Way A) A) E) where
  pub body_found : (b : Bool) → condition s.types e ≡ Ok b → IfOk r (λ ways. ways_of ways ≡ cond b (Through UnderGuard (part p x (Some t)) ∷ []) []) → IfOk r (AreFoundIn s (Guard e p) x t)
  body_found true is ways = found_in s (Guard e p) x t r _ (Through UnderGuard (part p x (Some t)) ∷ []) ways refl (law.guard_ways s e p p x t is)
  body_found false is ways = found_in s (Guard e p) x t r _ [] ways refl (guard_shut_ways s x t e p (λ holds. let h : Ok false ≡ Ok true = sym is ∙ holds in absurd (cc h)))

  pub no_body_found : (c : Cause) → condition s.types e ≡ Err c → IfOk r (λ ways. ways_of ways ≡ []) → IfOk r (AreFoundIn s (Guard e p) x t)
  no_body_found c is ways = found_in s (Guard e p) x t r _ [] ways refl (guard_shut_ways s x t e p (λ holds. let h : Err c ≡ Ok true = sym is ∙ holds in absurd (cc h)))
