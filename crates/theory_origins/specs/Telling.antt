-- What is told of a step: where it comes from, or nothing where there is no such step.
use Rattle.std.specs.Prelude.{◌≡◌, ⊤, IsTrue, Bool, true, false, List, Option, Some, None}
use Rattle.theory_syntax.specs.Value.{Event, Action, Tau, Tick, Ev}
use Rattle.theory_syntax.specs.Process.{Process, Stop, Skip, Omega, ExternalChoice, InternalChoice, Interleaving, Script}
use Rattle.theory_syntax.specs.declared.process_operator.ReplicatedOperator.{ReplicatedOperator}
use Rattle.theory_syntax.specs.declared.process_operator.ReplicatedOperator.TheVariants as operator
use Rattle.theory_semantics.specs.Meaning.Limits.{fits}
use Rattle.theory_semantics.specs.Meaning.Faults.{cause_in}
use Rattle.theory_semantics.specs.Meaning.Transitions.{RuleStep, chain}
use Rattle.theory_origins.specs.Origin.{Left, Right, OnSide, SideEnds, Origin, Ends, Below, Together, ComesFrom, origin}

-- An origin of the step; or nothing, and then no rule gives it where no rule for the process lacks a value and the target is within the limits.
abbrev pub Tells : Script → Process → Action → Process → Option Origin → Type 0
Tells script p x t (Some o) = ComesFrom script p x t o
Tells script p x t None = cause_in script p ≡ None → IsTrue (fits t) → ¬ RuleStep script p x t

-- The same of a part's step, of which the whole's target is made.
abbrev pub TellsUnder : Script → (Process → Process) → Process → Action → Process → Option Origin → Type 0
TellsUnder script under p x t (Some o) = (u : Process) × (t ≡ under u) × ComesFrom script p x u o
TellsUnder script under p x t None = cause_in script p ≡ None → (u : Process) → t ≡ under u → IsTrue (fits u) → ¬ RuleStep script p x u

-- The same of two parts' steps by one action.
abbrev pub TellsBoth : Script → (Process → Process → Process) → Process → Process → Action → Process → Option Origin → Type 0
TellsBoth script under p q x t (Some o) = (u v : Process) × (l r : Origin) × (t ≡ under u v) × (o ≡ Together l r) × ComesFrom script p x u l × ComesFrom script q x v r
TellsBoth script under p q x t None =
    cause_in script p ≡ None → cause_in script q ≡ None → (u v : Process) → t ≡ under u v → IsTrue (fits u) → IsTrue (fits v) → RuleStep script p x u → ¬ RuleStep script q x v

-- The one way to take the process apart by the operator, if there is one.
abbrev pub IsSplit : (Process → Process → Process) → Process → Option (Process × Process) → Type 0
IsSplit under t (Some parts) = (t ≡ under parts.0 parts.1) × ((u v : Process) → t ≡ under u v → (u ≡ parts.0) × (v ≡ parts.1))
IsSplit under t None = (u v : Process) → ¬ (t ≡ under u v)

abbrev pub IsBody : (Process → Process) → Process → Option Process → Type 0
IsBody under t (Some p) = (t ≡ under p) × ((u : Process) → t ≡ under u → u ≡ p)
IsBody under t None = (u : Process) → ¬ (t ≡ under u)

-- what a side of a parallel composition does alone: tau, and some events
abbrev pub IsFree : (Event → Bool) → Action → Type 0
IsFree free Tau = ⊤
IsFree free Tick = ⊥
IsFree free (Ev e) = IsTrue (free e)

-- why a parallel composition does tau, or an event
pub data TauOf (script : Script) (under : Process → Process → Process) (p q : Process) : Process → Type 0 where
  tau_left : {u : Process} → RuleStep script p Tau u → TauOf script under p q (under u q)
  tau_right : {v : Process} → RuleStep script q Tau v → TauOf script under p q (under p v)
  tick_left : {u : Process} → RuleStep script p Tick u → TauOf script under p q (under Omega q)
  tick_right : {v : Process} → RuleStep script q Tick v → TauOf script under p q (under p Omega)

pub data EventOf (script : Script) (under : Process → Process → Process) (left_free right_free shared : Event → Bool) (p q : Process) (e : Event) : Process → Type 0 where
  event_left : {u : Process} → IsTrue (left_free e) → RuleStep script p (Ev e) u → EventOf script under left_free right_free shared p q e (under u q)
  event_right : {v : Process} → IsTrue (right_free e) → RuleStep script q (Ev e) v → EventOf script under left_free right_free shared p q e (under p v)
  event_both : {u v : Process} → IsTrue (shared e) → RuleStep script p (Ev e) u → RuleStep script q (Ev e) v → EventOf script under left_free right_free shared p q e (under u v)

-- The rules of a parallel composition, by the events that each side does alone and those that both do together.
pub record IsParallel (script : Script) (under : Process → Process → Process) (left_free right_free shared : Event → Bool) : Type 0 where
  pub left : (p q u : Process) (x : Action) → IsFree left_free x → (h : RuleStep script p x u) → ComesFrom script (under p q) x (under u q) (Below (OnSide Left) (origin h))
  pub right : (p q v : Process) (x : Action) → IsFree right_free x → (h : RuleStep script q x v) → ComesFrom script (under p q) x (under p v) (Below (OnSide Right) (origin h))
  pub both : (p q u v : Process) (e : Event) → IsTrue (shared e) → (h : RuleStep script p (Ev e) u) → (k : RuleStep script q (Ev e) v) → ComesFrom script (under p q) (Ev e) (under u v) (Together (origin h) (origin k))
  pub left_ends : (p q u : Process) (h : RuleStep script p Tick u) → ComesFrom script (under p q) Tau (under Omega q) (Below (SideEnds Left) (origin h))
  pub right_ends : (p q v : Process) (h : RuleStep script q Tick v) → ComesFrom script (under p q) Tau (under p Omega) (Below (SideEnds Right) (origin h))
  pub ended : ComesFrom script (under Omega Omega) Tick Omega Ends
  pub taus : (p q t : Process) → RuleStep script (under p q) Tau t → TauOf script under p q t
  pub events : (p q t : Process) (e : Event) → RuleStep script (under p q) (Ev e) t → EventOf script under left_free right_free shared p q e t
  pub ticks : (p q t : Process) → RuleStep script (under p q) Tick t → (p ≡ Omega) × (q ≡ Omega) × (t ≡ Omega)
  pub causes : (p q : Process) → cause_in script (under p q) ≡ None → (cause_in script p ≡ None) × (cause_in script q ≡ None)
  pub within : (u v : Process) → IsTrue (fits (under u v)) → IsTrue (fits u) × IsTrue (fits v)

-- where this is so, and nothing where it is not
abbrev pub TellsWhere : Bool → (Option Origin → Type 0) → Option Origin → Type 0
TellsWhere true tells o = tells o
TellsWhere false tells o = o ≡ None

-- Where no rule for the part lacks a value, it does no such event to what the whole's target is made of.
abbrev pub NoneThrough : Script → (Process → Process) → (Event → Type 0) → Process → Process → Type 0
NoneThrough script under passes p t = cause_in script p ≡ None → (e : Event) → (u : Process) → passes e → t ≡ under u → IsTrue (fits u) → ¬ RuleStep script p (Ev e) u

-- the chain of the instances of a replicated form
abbrev pub instance_chain : ReplicatedOperator → List Process → Process
instance_chain operator.ExternalChoice ps = chain ExternalChoice Stop ps
instance_chain operator.InternalChoice ps = chain InternalChoice Stop ps
instance_chain operator.Interleaving ps = chain Interleaving Skip ps
