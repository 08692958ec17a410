-- The steps of a closed term (Roscoe, operational semantics).
use Rattle.std.specs.Prelude.{◌≡◌, ℕ, true, false, IsTrue, IsFalse, List, ◌∷◌, Contains, Some, None, Ok, ⊤}
use Rattle.theory_syntax.specs.Value.{Value, Event, Action, Tau, Tick, Ev}
use Rattle.theory_syntax.specs.Expression.{Expression, Expressions}
use Rattle.theory_semantics.specs.Meaning.Evaluation.{Cause}
use Rattle.theory_syntax.specs.Process.{Field, EventSet, RenamingPair, Process, Stop, Skip, Omega, Call, Prefix, Guard, If, ExternalChoice, InternalChoice, Sequential, Interleaving, Interrupt, GeneralisedParallel, AlphabetisedParallel, Hiding, Renaming, ReplicatedExternalChoice, ReplicatedInternalChoice, ReplicatedInterleaving, SlidingChoice, Script}
use Rattle.theory_semantics.specs.Meaning.Substitution.{put}
use Rattle.theory_semantics.specs.Meaning.Limits.{fits}
use Rattle.theory_semantics.specs.Meaning.Faults.{cause_in}
use Rattle.theory_semantics.specs.Meaning.Unfolding.{settled}
pub use Rattle.theory_semantics.specs.Meaning.Chains.{left_grouped, chain}
use Rattle.theory_semantics.specs.Meaning.Events.{Communication, prefix_communications, condition, elements, has_event, images, called, instances}

-- an event or tick; tau or an event
abbrev pub IsVisible : Action → Type 0
IsVisible Tau = ⊥
IsVisible Tick = ⊤
IsVisible (Ev e) = ⊤

abbrev pub IsNotTick : Action → Type 0
IsNotTick Tau = ⊤
IsNotTick Tick = ⊥
IsNotTick (Ev e) = ⊤

-- what one side of `P [| A |] Q` does alone: tau, and events outside A
abbrev pub IsOutside : Script → EventSet → Action → Type 0
IsOutside script a Tau = ⊤
IsOutside script a Tick = ⊥
IsOutside script a (Ev e) = IsFalse (has_event script a e)

-- what one side of `P [A || B] Q` does alone: tau, and events of its own set that are not in the other
abbrev pub IsWithinOnly : Script → EventSet → EventSet → Action → Type 0
IsWithinOnly script own other Tau = ⊤
IsWithinOnly script own other Tick = ⊥
IsWithinOnly script own other (Ev e) = IsTrue (has_event script own e) × IsFalse (has_event script other e)

-- The rules. A step of a replicated form is one of the chain of its instances. Where names are unfolded at once, a step leads to
-- a settled term; what an operator leads to is made of what its sides lead to, which are settled.
pub data RuleStep (script : Script) : Process → Action → Process → Type 0 where
  skip : RuleStep script Skip Tick Omega
  prefix : {c : ℕ} {fs : List Field} {p : Process} (all : List Communication) (m : Communication) → prefix_communications script c fs ≡ Ok all → Contains all m →
      RuleStep script (Prefix c fs p) (Ev (record { channel = c; fields = m.values })) (settled script (put m.bindings p))
  call : {n : ℕ} {es : Expressions} {t : Process} → called script n es ≡ Ok t → RuleStep script (Call n es) Tau (settled script t)
  guard : {e : Expression} {p t : Process} {x : Action} → condition script.types e ≡ Ok true → RuleStep script p x t → RuleStep script (Guard e p) x t
  if_true : {e : Expression} {p q t : Process} {x : Action} → condition script.types e ≡ Ok true → RuleStep script p x t → RuleStep script (If e p q) x t
  if_false : {e : Expression} {p q t : Process} {x : Action} → condition script.types e ≡ Ok false → RuleStep script q x t → RuleStep script (If e p q) x t
  -- `P [] Q`: tau keeps the choice, an event or tick makes it
  external_tau_left : {p q t : Process} → RuleStep script p Tau t → RuleStep script (ExternalChoice p q) Tau (ExternalChoice t q)
  external_tau_right : {p q t : Process} → RuleStep script q Tau t → RuleStep script (ExternalChoice p q) Tau (ExternalChoice p t)
  external_left : {p q t : Process} {x : Action} → IsVisible x → RuleStep script p x t → RuleStep script (ExternalChoice p q) x t
  external_right : {p q t : Process} {x : Action} → IsVisible x → RuleStep script q x t → RuleStep script (ExternalChoice p q) x t
  -- `P |~| Q`
  internal_left : {p q : Process} → RuleStep script (InternalChoice p q) Tau (settled script p)
  internal_right : {p q : Process} → RuleStep script (InternalChoice p q) Tau (settled script q)
  -- `P ; Q`: tick of P is hidden and leads to Q
  sequential : {p q t : Process} {x : Action} → IsNotTick x → RuleStep script p x t → RuleStep script (Sequential p q) x (Sequential t q)
  sequential_tick : {p q t : Process} → RuleStep script p Tick t → RuleStep script (Sequential p q) Tau (settled script q)
  -- `P ||| Q`: each side alone; a side that can tick ends by tau; both ended tick
  interleaving_left : {p q t : Process} {x : Action} → IsNotTick x → RuleStep script p x t → RuleStep script (Interleaving p q) x (Interleaving t q)
  interleaving_right : {p q t : Process} {x : Action} → IsNotTick x → RuleStep script q x t → RuleStep script (Interleaving p q) x (Interleaving p t)
  interleaving_tick_left : {p q t : Process} → RuleStep script p Tick t → RuleStep script (Interleaving p q) Tau (Interleaving Omega q)
  interleaving_tick_right : {p q t : Process} → RuleStep script q Tick t → RuleStep script (Interleaving p q) Tau (Interleaving p Omega)
  interleaving_tick : RuleStep script (Interleaving Omega Omega) Tick Omega
  -- `P /\ Q`: P goes on until it ticks or Q does an event or ticks
  interrupt_left : {p q t : Process} {x : Action} → IsNotTick x → RuleStep script p x t → RuleStep script (Interrupt p q) x (Interrupt t q)
  interrupt_tick : {p q t : Process} → RuleStep script p Tick t → RuleStep script (Interrupt p q) Tick Omega
  interrupt_tau_right : {p q t : Process} → RuleStep script q Tau t → RuleStep script (Interrupt p q) Tau (Interrupt p t)
  interrupt_right : {p q t : Process} {x : Action} → IsVisible x → RuleStep script q x t → RuleStep script (Interrupt p q) x t
  -- `P [| A |] Q`: events in A by both together
  generalised_left : {p q t : Process} {a : EventSet} {x : Action} → IsOutside script a x → RuleStep script p x t → RuleStep script (GeneralisedParallel p a q) x (GeneralisedParallel t a q)
  generalised_right : {p q t : Process} {a : EventSet} {x : Action} → IsOutside script a x → RuleStep script q x t → RuleStep script (GeneralisedParallel p a q) x (GeneralisedParallel p a t)
  generalised_both : {p q t u : Process} {a : EventSet} {e : Event} → IsTrue (has_event script a e) → RuleStep script p (Ev e) t → RuleStep script q (Ev e) u →
      RuleStep script (GeneralisedParallel p a q) (Ev e) (GeneralisedParallel t a u)
  generalised_tick_left : {p q t : Process} {a : EventSet} → RuleStep script p Tick t → RuleStep script (GeneralisedParallel p a q) Tau (GeneralisedParallel Omega a q)
  generalised_tick_right : {p q t : Process} {a : EventSet} → RuleStep script q Tick t → RuleStep script (GeneralisedParallel p a q) Tau (GeneralisedParallel p a Omega)
  generalised_tick : {a : EventSet} → RuleStep script (GeneralisedParallel Omega a Omega) Tick Omega
  -- `P [A || B] Q`: P does only events of A, Q only events of B, and those of both they do together
  alphabetised_left : {p q t : Process} {a b : EventSet} {x : Action} → IsWithinOnly script a b x → RuleStep script p x t →
      RuleStep script (AlphabetisedParallel p a b q) x (AlphabetisedParallel t a b q)
  alphabetised_right : {p q t : Process} {a b : EventSet} {x : Action} → IsWithinOnly script b a x → RuleStep script q x t →
      RuleStep script (AlphabetisedParallel p a b q) x (AlphabetisedParallel p a b t)
  alphabetised_both : {p q t u : Process} {a b : EventSet} {e : Event} → IsTrue (has_event script a e) → IsTrue (has_event script b e) → RuleStep script p (Ev e) t → RuleStep script q (Ev e) u →
      RuleStep script (AlphabetisedParallel p a b q) (Ev e) (AlphabetisedParallel t a b u)
  alphabetised_tick_left : {p q t : Process} {a b : EventSet} → RuleStep script p Tick t → RuleStep script (AlphabetisedParallel p a b q) Tau (AlphabetisedParallel Omega a b q)
  alphabetised_tick_right : {p q t : Process} {a b : EventSet} → RuleStep script q Tick t → RuleStep script (AlphabetisedParallel p a b q) Tau (AlphabetisedParallel p a b Omega)
  alphabetised_tick : {a b : EventSet} → RuleStep script (AlphabetisedParallel Omega a b Omega) Tick Omega
  -- `P \ A`: events in A become tau
  hiding_tau : {p t : Process} {a : EventSet} → RuleStep script p Tau t → RuleStep script (Hiding p a) Tau (Hiding t a)
  hiding_hidden : {p t : Process} {a : EventSet} {e : Event} → IsTrue (has_event script a e) → RuleStep script p (Ev e) t → RuleStep script (Hiding p a) Tau (Hiding t a)
  hiding_event : {p t : Process} {a : EventSet} {e : Event} → IsFalse (has_event script a e) → RuleStep script p (Ev e) t → RuleStep script (Hiding p a) (Ev e) (Hiding t a)
  hiding_tick : {p t : Process} {a : EventSet} → RuleStep script p Tick t → RuleStep script (Hiding p a) Tick Omega
  -- `P[[..]]`: an event becomes each of its images
  renaming_tau : {p t : Process} {rs : List RenamingPair} → RuleStep script p Tau t → RuleStep script (Renaming p rs) Tau (Renaming t rs)
  renaming_event : {p t : Process} {rs : List RenamingPair} {e f : Event} → Contains (images script rs e) f → RuleStep script p (Ev e) t → RuleStep script (Renaming p rs) (Ev f) (Renaming t rs)
  renaming_tick : {p t : Process} {rs : List RenamingPair} → RuleStep script p Tick t → RuleStep script (Renaming p rs) Tick Omega
  -- the replicated forms
  replicated_external : {n : ℕ} {e : Expression} {p t : Process} {x : Action} (vs : List Value) → elements script.types e ≡ Ok vs →
      RuleStep script (chain ExternalChoice Stop (instances n p vs)) x t → RuleStep script (ReplicatedExternalChoice n e p) x t
  replicated_internal : {n : ℕ} {e : Expression} {p t : Process} {x : Action} (v : Value) (vs : List Value) → elements script.types e ≡ Ok (v ∷ vs) →
      RuleStep script (chain InternalChoice Stop (instances n p (v ∷ vs))) x t → RuleStep script (ReplicatedInternalChoice n e p) x t
  replicated_interleaving : {n : ℕ} {e : Expression} {p t : Process} {x : Action} (vs : List Value) → elements script.types e ≡ Ok vs →
      RuleStep script (chain Interleaving Skip (instances n p vs)) x t → RuleStep script (ReplicatedInterleaving n e p) x t
  -- `P [> Q`: tau of P keeps the choice, an event or tick of P makes it, and one more tau leads to Q
  sliding_tau : {p q t : Process} → RuleStep script p Tau t → RuleStep script (SlidingChoice p q) Tau (SlidingChoice t q)
  sliding_left : {p q t : Process} {x : Action} → IsVisible x → RuleStep script p x t → RuleStep script (SlidingChoice p q) x t
  sliding_away : {p q : Process} → RuleStep script (SlidingChoice p q) Tau (settled script q)

-- A term within the limits is faulty where a rule for it needs a value that does not exist.
pub record IsFaulty (script : Script) (t : Process) (c : Cause) : Type 0 where
  pub within : IsTrue (fits t)
  pub cause : cause_in script t ≡ Some c

-- A term is large past the limits, or where it is not faulty and some rule step leads past them.
abbrev pub LeadsPastLimits : Script → Process → Type 0
LeadsPastLimits script t = (x : Action) × (u : Process) × RuleStep script t x u × IsFalse (fits u)

pub data IsLarge (script : Script) (t : Process) : Type 0 where
  itself : IsFalse (fits t) → IsLarge script t
  by_step : cause_in script t ≡ None → LeadsPastLimits script t → IsLarge script t

pub data IsStuck (script : Script) (t : Process) : Type 0 where
  faulty : (c : Cause) → IsFaulty script t c → IsStuck script t
  large : IsLarge script t → IsStuck script t

-- neither faulty nor large
pub record IsNotStuck (script : Script) (t : Process) : Type 0 where
  pub within : IsTrue (fits t)
  pub no_cause : cause_in script t ≡ None
  pub targets : (x : Action) (u : Process) → RuleStep script t x u → IsTrue (fits u)

-- A step of a term is a rule step, where the term is not stuck.
abbrev pub Step : Script → Process → Action → Process → Type 0
Step script t x u = IsNotStuck script t × RuleStep script t x u
