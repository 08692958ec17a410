-- The ways of a replicated form, by the chain of its instances.
use Rattle.std.proofs.Common.{◌≡◌, ℕ, List, [], ◌∷◌, ◌++◌, refl, sym, ap, subst, Some, None}
use Rattle.theory_syntax.specs.Value.{Action, Value}
use Rattle.theory_syntax.specs.Expression.{Expression}
use Rattle.theory_syntax.specs.Operators.{replicated_process}
use Rattle.theory_syntax.specs.Process.{Process, Script}
use Rattle.theory_syntax.specs.declared.process_operator.ReplicatedOperator.{ReplicatedOperator}
use Rattle.theory_syntax.specs.declared.process_operator.ReplicatedOperator.TheVariants as operator
use Rattle.theory_semantics.specs.Meaning.Events.{elements, instances}
use Rattle.theory_semantics.specs.Meaning.Substitution.{put}
use Rattle.theory_semantics.specs.Meaning.Transitions.{left_grouped}
use Rattle.theory_origins.specs.Origin.{InChain}
use Rattle.theory_origins.specs.Telling.{instance_chain}
use Rattle.theory_origins.specs.Ways.{AreWays, Through, part}
use Rattle.theory_origins.proofs.LeafWays.{instance_ways, no_instance_ways}
use Rattle.csp_moves.specs.Chains.{IsChainOf, linked}

module _ (s : Script) (op : ReplicatedOperator) (n : ℕ) (e : Expression) (p : Process) (x : Action) (t : Process) where
  pub chain_are : (c : Process) → IsChainOf op n p (elements s.types e) (Some c) → AreWays s (replicated_process op n e p) x t (Through InChain (part c x (Some t)) ∷ [])
  chain_are c is =
      let P : Process → Type 0 = λ d. AreWays s (replicated_process op n e p) x t (Through InChain (part d x (Some t)) ∷ []) in
      subst P (sym is.2) (instance_ways s x t op n e p is.0 is.1)

  pub no_chain_are : IsChainOf op n p (elements s.types e) None → AreWays s (replicated_process op n e p) x t []
  no_chain_are none = no_instance_ways s x t op n e p none.0 none.1

-- ---- chains of at least one

pub chain_linked : (op : ReplicatedOperator) (p : Process) (ps : List Process) → instance_chain op (p ∷ ps) ≡ left_grouped (linked op) p ps
chain_linked operator.ExternalChoice p ps = refl
chain_linked operator.InternalChoice p ps = refl
chain_linked operator.Interleaving p ps = refl

-- one more process
pub grouped_more : (op : Process → Process → Process) (p : Process) (qs : List Process) (q : Process) → left_grouped op p (qs ++ q ∷ []) ≡ op (left_grouped op p qs) q
grouped_more op p [] q = refl
grouped_more op p (r ∷ qs) q = grouped_more op (op p r) qs q

pub instances_more : (n : ℕ) (p : Process) (vs : List Value) (v : Value) → instances n p (vs ++ v ∷ []) ≡ instances n p vs ++ put ((n, v) ∷ []) p ∷ []
instances_more n p [] v = refl
instances_more n p (w ∷ vs) v = ap (λ ps. put ((n, w) ∷ []) p ∷ ps) (instances_more n p vs v)
