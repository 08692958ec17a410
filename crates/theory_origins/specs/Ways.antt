-- The ways in which a step may come about, by which its origin is looked for.
use Rattle.std.specs.Prelude.{◌≡◌, ◌⊎◌, ℕ, suc, ◌≤◌, max, Bool, true, false, IsTrue, Contains, List, Option, Some, None}
use Rattle.std.specs.List.{AllByRecursion}
use Rattle.std.specs.Option.{option_map}
use Rattle.theory_syntax.specs.Value.{Event, Action, Ev}
use Rattle.theory_syntax.specs.Process.{Process, Omega, Script}
use Rattle.theory_semantics.specs.Meaning.Faults.{cause_in}
use Rattle.theory_semantics.specs.Meaning.Limits.{fits}
use Rattle.theory_semantics.specs.Meaning.Transitions.{RuleStep}
use Rattle.theory_origins.specs.Origin.{Passage, Origin, Below, Together, ComesFrom}
use Rattle.theory_origins.specs.Telling.{IsBody, IsSplit, Tells}
use Rattle.theory_origins.specs.Weight.{weight}

-- A step that a part may do: to the target, if there is one.
pub record Part : Type 0 where
  pub process : Process
  pub action : Action
  pub target : Option Process

abbrev pub part : Process → Action → Option Process → Part
part p x t = record { process = p; action = x; target = t }

-- A step may come from here, through a part that does one, or from both parts together.
pub data Way : Type 0 where
  Here : (origin : Origin) → Way
  Through : (passage : Passage) → (part : Part) → Way
  Both : (left right : Part) → Way

-- what is told of a step to the target, if there is one
abbrev pub TellsTo : Script → Process → Action → Option Process → Option Origin → Type 0
TellsTo script p x (Some t) o = Tells script p x t o
TellsTo script p x None o = o ≡ None

abbrev pub TellsOf : Script → Part → Option Origin → Type 0
TellsOf script part o = TellsTo script part.process part.action part.target o

-- An origin along the way; or nothing, where the way is closed.
abbrev pub TellsBy : Script → Way → Option Origin → Type 0
TellsBy script (Here h) o = o ≡ Some h
TellsBy script (Through passage part) o = (l : Option Origin) × TellsOf script part l × (o ≡ option_map (Below passage) l)
TellsBy script (Both left right) (Some o) = (l r : Origin) × TellsOf script left (Some l) × TellsOf script right (Some r) × (o ≡ Together l r)
TellsBy script (Both left right) None = TellsOf script left None ⊎ TellsOf script right None

-- how much there is to go down along the way
abbrev pub way_weight : Script → Way → ℕ
way_weight script (Here h) = 0
way_weight script (Through passage part) = suc (weight script part.process)
way_weight script (Both left right) = suc (max (weight script left.process) (weight script right.process))

-- Each way tells only origins of the step. Where all are closed no rule gives it. The parts are smaller.
pub record AreWays (script : Script) (p : Process) (x : Action) (t : Process) (ways : List Way) : Type 0 where
  pub sound : AllByRecursion (λ way. (o : Origin) → TellsBy script way (Some o) → ComesFrom script p x t o) ways
  pub complete : AllByRecursion (λ way. TellsBy script way None) ways → Tells script p x t None
  pub smaller : AllByRecursion (λ way. way_weight script way ≤ weight script p) ways

-- a target that a side's end leads to: it ended, and the whole became the process
abbrev pub IsEndAt : Process → Process → Option Process → Type 0
IsEndAt t q (Some u) = (t ≡ q) × (u ≡ Omega)
IsEndAt t q None = ¬ (t ≡ q)

-- both parts of what was taken apart
abbrev pub first_of : Option (Process × Process) → Option Process
first_of parts = option_map (λ r. r.0) parts

abbrev pub second_of : Option (Process × Process) → Option Process
second_of parts = option_map (λ r. r.1) parts

-- the one way to take the process apart, where that may be, and nothing where it may not
abbrev pub IsSplitWhere : Bool → (Process → Process → Process) → Process → Option (Process × Process) → Type 0
IsSplitWhere true under t parts = IsSplit under t parts
IsSplitWhere false under t parts = parts ≡ None

-- the same by the operator of one process, where that may be, and nothing where it may not
abbrev pub IsBodyWhere : Bool → (Process → Process) → Process → Option Process → Type 0
IsBodyWhere true under t target = IsBody under t target
IsBodyWhere false under t target = target ≡ None

-- Events of this kind, with each of the process that leads to the target, where no rule for it lacks a value.
pub record AreEventsTo (script : Script) (p u : Process) (passes : Event → Type 0) (es : List Event) : Type 0 where
  pub passing : (e : Event) → Contains es e → passes e
  pub every : cause_in script p ≡ None → IsTrue (fits u) → (e : Event) → passes e → RuleStep script p (Ev e) u → Contains es e
