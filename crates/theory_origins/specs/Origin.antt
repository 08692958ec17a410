-- Where a step comes from: the parts of the process that move, the way down to them, and the rule by which they do.
use Rattle.std.specs.Prelude.{◌≡◌, ℕ}
use Rattle.theory_syntax.specs.Value.{Event, Action}
use Rattle.theory_syntax.specs.Process.{Process, Script}
use Rattle.theory_semantics.specs.Meaning.Transitions.{RuleStep, skip, prefix, call, guard, if_true, if_false, external_tau_left, external_tau_right, external_left, external_right, internal_left, internal_right, sequential, sequential_tick, interleaving_left, interleaving_right, interleaving_tick_left, interleaving_tick_right, interleaving_tick, interrupt_left, interrupt_tick, interrupt_tau_right, interrupt_right, generalised_left, generalised_right, generalised_both, generalised_tick_left, generalised_tick_right, generalised_tick, alphabetised_left, alphabetised_right, alphabetised_both, alphabetised_tick_left, alphabetised_tick_right, alphabetised_tick, hiding_tau, hiding_hidden, hiding_event, hiding_tick, renaming_tau, renaming_event, renaming_tick, replicated_external, replicated_internal, replicated_interleaving, sliding_tau, sliding_left, sliding_away}

-- A side of an operator, or a branch of a condition.
pub data Side : Type 0 where
  Left Right : Side

-- The way from a process down to a part that moves, and what the process makes of the part's step.
pub data Passage : Type 0 where
  -- to a side of a parallel operator, and to the body under hiding or renaming: these stay as the part moves
  OnSide : (side : Side) → Passage
  InBody : Passage
  -- to a side of another operator or a branch, to the body under a guard, and to the chain of a replicated form's instances
  OnBranch : (side : Side) → Passage
  UnderGuard : Passage
  InChain : Passage
  -- a side ends, which is a tau here
  SideEnds : (side : Side) → Passage
  -- the body does an event that is hidden here, or that is renamed
  Hides : (event : Event) → Passage
  Renames : (from to : Event) → Passage

pub data Origin : Type 0 where
  -- a prefix does its event; `SKIP` ends, or a composition of which both sides have ended
  Does : (event : Event) → Origin
  Ends : Origin
  -- a called name becomes the body of its equation, `|~|` becomes a side, and `[>` its right side
  Unfolds : (equation : ℕ) → Origin
  Chooses : (side : Side) → Origin
  Slides : Origin
  -- a part moves, or both sides do one event
  Below : (passage : Passage) → (part : Origin) → Origin
  Together : (left right : Origin) → Origin

-- the origin of a step, read off the rules that give it
abbrev pub origin : {script : Script} {p t : Process} {x : Action} → RuleStep script p x t → Origin
origin skip = Ends
origin (prefix {c = c} all m is has) = Does (record { channel = c; fields = m.values })
origin (call {n = n} is) = Unfolds n
origin (guard is step) = Below UnderGuard (origin step)
origin (if_true is step) = Below (OnBranch Left) (origin step)
origin (if_false is step) = Below (OnBranch Right) (origin step)
origin (external_tau_left step) = Below (OnBranch Left) (origin step)
origin (external_tau_right step) = Below (OnBranch Right) (origin step)
origin (external_left visible step) = Below (OnBranch Left) (origin step)
origin (external_right visible step) = Below (OnBranch Right) (origin step)
origin internal_left = Chooses Left
origin internal_right = Chooses Right
origin (sequential no_tick step) = Below (OnBranch Left) (origin step)
origin (sequential_tick step) = Below (SideEnds Left) (origin step)
origin (interleaving_left no_tick step) = Below (OnSide Left) (origin step)
origin (interleaving_right no_tick step) = Below (OnSide Right) (origin step)
origin (interleaving_tick_left step) = Below (SideEnds Left) (origin step)
origin (interleaving_tick_right step) = Below (SideEnds Right) (origin step)
origin interleaving_tick = Ends
origin (interrupt_left no_tick step) = Below (OnBranch Left) (origin step)
origin (interrupt_tick step) = Below (OnBranch Left) (origin step)
origin (interrupt_tau_right step) = Below (OnBranch Right) (origin step)
origin (interrupt_right visible step) = Below (OnBranch Right) (origin step)
origin (generalised_left outside step) = Below (OnSide Left) (origin step)
origin (generalised_right outside step) = Below (OnSide Right) (origin step)
origin (generalised_both shared left right) = Together (origin left) (origin right)
origin (generalised_tick_left step) = Below (SideEnds Left) (origin step)
origin (generalised_tick_right step) = Below (SideEnds Right) (origin step)
origin generalised_tick = Ends
origin (alphabetised_left within step) = Below (OnSide Left) (origin step)
origin (alphabetised_right within step) = Below (OnSide Right) (origin step)
origin (alphabetised_both in_left in_right left right) = Together (origin left) (origin right)
origin (alphabetised_tick_left step) = Below (SideEnds Left) (origin step)
origin (alphabetised_tick_right step) = Below (SideEnds Right) (origin step)
origin alphabetised_tick = Ends
origin (hiding_tau step) = Below InBody (origin step)
origin (hiding_hidden {e = e} hidden step) = Below (Hides e) (origin step)
origin (hiding_event seen step) = Below InBody (origin step)
origin (hiding_tick step) = Below InBody (origin step)
origin (renaming_tau step) = Below InBody (origin step)
origin (renaming_event {e = e} {f = f} image step) = Below (Renames e f) (origin step)
origin (renaming_tick step) = Below InBody (origin step)
origin (replicated_external vs is step) = Below InChain (origin step)
origin (replicated_internal v vs is step) = Below InChain (origin step)
origin (replicated_interleaving vs is step) = Below InChain (origin step)
origin (sliding_tau step) = Below (OnBranch Left) (origin step)
origin (sliding_left visible step) = Below (OnBranch Left) (origin step)
origin sliding_away = Slides

-- the step comes from there: some rules give it that have this origin
abbrev pub ComesFrom : Script → Process → Action → Process → Origin → Type 0
ComesFrom script p x t o = (step : RuleStep script p x t) × (origin step ≡ o)
