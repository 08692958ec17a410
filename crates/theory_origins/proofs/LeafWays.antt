-- The ways of processes whose steps need none of a part, and of replicated forms.
use Rattle.std.proofs.Common.{◌≡◌, ℕ, List, [], ◌∷◌, true, sym, subst, arith, Some, None, Ok, Err}
use Rattle.theory_syntax.specs.Value.{Value, Event, Action, Tick, Ev}
use Rattle.theory_syntax.specs.Expression.{Expression, Expressions}
use Rattle.theory_syntax.specs.Operators.{replicated_process}
use Rattle.theory_syntax.specs.Process.{Field, Process, Stop, Skip, Omega, Call, Prefix, Guard, If, Script}
use Rattle.theory_syntax.specs.declared.process_operator.ReplicatedOperator.{ReplicatedOperator}
use Rattle.theory_semantics.specs.Meaning.Evaluation.{Cause}
use Rattle.theory_semantics.specs.Meaning.Events.{condition, elements, instances}
use Rattle.theory_semantics.specs.Meaning.Transitions.{RuleStep}
use Rattle.theory_origins.specs.Origin.{InChain, Does, Ends, Unfolds}
use Rattle.theory_origins.specs.Telling.{instance_chain}
use Rattle.theory_origins.specs.Ways.{AreWays, Here, Through, part}
use Rattle.theory_origins.proofs.Telling.{call_unfolds, guard_shut, if_stuck, prefix_does, prefix_event, skip_comes, skip_ends}
use Rattle.theory_origins.proofs.TellingInstances.{by_instances, no_instances}
use Rattle.theory_origins.proofs.Ways.{along, closed, no_ways, one_here}
use Rattle.theory_origins.proofs.Weighing.{instances_less}

module _ (s : Script) (x : Action) (t : Process) where
  pub stop_ways : AreWays s Stop x t []
  stop_ways = no_ways s Stop x t (λ clear within step. elim step [ ])

  pub omega_ways : AreWays s Omega x t []
  omega_ways = no_ways s Omega x t (λ clear within step. elim step [ ])

  pub skip_ways : x ≡ Tick → t ≡ Omega → AreWays s Skip x t (Here Ends ∷ [])
  skip_ways ticks ended = one_here s Skip x t Ends (skip_comes s x t ticks ended)

  pub no_skip_ways : ¬ ((x ≡ Tick) × (t ≡ Omega)) → AreWays s Skip x t []
  no_skip_ways other = no_ways s Skip x t (λ clear within step. other (skip_ends s x t step))

  pub call_ways : (n : ℕ) (es : Expressions) → RuleStep s (Call n es) x t → AreWays s (Call n es) x t (Here (Unfolds n) ∷ [])
  call_ways n es step = one_here s (Call n es) x t (Unfolds n) (call_unfolds s n es x t step)

  pub prefix_ways : (c : ℕ) (fs : List Field) (p : Process) (e : Event) → x ≡ Ev e → RuleStep s (Prefix c fs p) x t → AreWays s (Prefix c fs p) x t (Here (Does e) ∷ [])
  prefix_ways c fs p e is step =
      let P : Action → Type 0 = λ y. RuleStep s (Prefix c fs p) y t → AreWays s (Prefix c fs p) y t (Here (Does e) ∷ []) in
      subst P (sym is) (λ h. one_here s (Prefix c fs p) (Ev e) t (Does e) (prefix_does s c fs p e t h)) step

  pub no_prefix_ways : (c : ℕ) (fs : List Field) (p : Process) → ((e : Event) → ¬ (x ≡ Ev e)) → AreWays s (Prefix c fs p) x t []
  no_prefix_ways c fs p other = no_ways s (Prefix c fs p) x t (λ clear within step. let done = prefix_event s c fs p x t step in other done.0 done.1)

  pub guard_shut_ways : (e : Expression) (p : Process) → ¬ (condition s.types e ≡ Ok true) → AreWays s (Guard e p) x t []
  guard_shut_ways e p not = no_ways s (Guard e p) x t (λ clear within. guard_shut s e p x t not)

  pub no_branch_ways : (e : Expression) (p q : Process) (c : Cause) → condition s.types e ≡ Err c → AreWays s (If e p q) x t []
  no_branch_ways e p q c is = no_ways s (If e p q) x t (λ clear within. if_stuck s e p q x t c is)

  module _ (op : ReplicatedOperator) (n : ℕ) (e : Expression) (p : Process) where
    pub instance_ways : (vs : List Value) → elements s.types e ≡ Ok vs → AreWays s (replicated_process op n e p) x t (Through InChain (part (instance_chain op (instances n p vs)) x (Some t)) ∷ [])
    instance_ways vs are = record {
      sound = (along s (instance_chain op (instances n p vs)) x (Some t) InChain (replicated_process op n e p) x t (λ b h. by_instances s n e p x t op vs (Some b) are h), tt);
      complete = λ all. by_instances s n e p x t op vs None are (closed s (instance_chain op (instances n p vs)) x (Some t) InChain all.0);
      smaller = (omega (arith, instances_less s op n e p vs are), tt);
    }

    pub no_instance_ways : (c : Cause) → elements s.types e ≡ Err c → AreWays s (replicated_process op n e p) x t []
    no_instance_ways c is = no_ways s (replicated_process op n e p) x t (λ clear within. no_instances s n e p x t op c is)
