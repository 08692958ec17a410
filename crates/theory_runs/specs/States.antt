-- Runs told state by state.
use Rattle.std.specs.Prelude.{◌≡◌, ◌↔◌, ◌≤◌, ℕ, suc, List, [], ◌∷◌, length, slice_get, Some, take, Contains}
use Rattle.theory_syntax.specs.Value.{Action}
use Rattle.theory_syntax.specs.Process.{Process, Assertion, Script}
use Rattle.theory_semantics.specs.Meaning.Transitions.{Step}
use Rattle.theory_semantics.specs.Meaning.Runs.{Run, trace, IsAfter}
use Rattle.theory_semantics.specs.Meaning.Offers.{CanDo, IsAcceptance}
use Rattle.theory_semantics.specs.Meaning.Divergence.{Diverges, IsDeadlocked}
use Rattle.theory_search.specs.Counting.{AreMoreThan}
use Rattle.theory_search.specs.Growth.{AreDistinct}
use Rattle.theory_semantics.specs.Meaning.Violations.{Evidence, ByEvent, ByOffers, ByDeadlock, ByDivergence, Violation, IsEvidence}

-- the path leads from t to u, and these are the states on its way, from t on to u
abbrev pub Visits : Script → Process → List Action → List Process → Process → Type 0
Visits script t [] states u = (states ≡ t ∷ []) × (t ≡ u)
Visits script t (x ∷ path) states u = (mid : Process) × (rest : List Process) × (states ≡ t ∷ rest) × Step script t x mid × Visits script mid path rest u

-- The end of a path does what the evidence says.
abbrev pub Shows : Script → Process → Evidence → Type 0
Shows script t (ByEvent x) = CanDo script t x
Shows script t (ByOffers xs) = IsAcceptance script t xs
Shows script t ByDeadlock = IsDeadlocked script t
Shows script t ByDivergence = Diverges script t

-- the path leads from t to a state that shows the evidence, and these are the states on its way
pub record IsReplay (script : Script) (t : Process) (v : Violation) (states : List Process) : Type 0 where
  pub end : Process
  pub visits : Visits script t v.path states end
  pub shows : Shows script end v.evidence

-- no run by the path leads to a state that shows the evidence
abbrev pub HasNoReplay : Script → Process → Violation → Type 0
HasNoReplay script t v = (u : Process) → Run script t v.path u → ¬ Shows script u v.evidence

-- ---- what is told of the states of a run

-- each state is reached by the beginning of the path that is as long as there are states before it
abbrev pub AreReached : Script → Process → List Action → List Process → Type 0
AreReached script t path states = (i : ℕ) (v : Process) → slice_get states i ≡ Some v → Run script t (take i path) v

-- a step by x leads from the state at the place to the next one
abbrev pub HasStepAt : Script → List Process → ℕ → Action → Type 0
HasStepAt script states i x = (v : Process) × (w : Process) × (slice_get states i ≡ Some v) × (slice_get states (suc i) ≡ Some w) × Step script v x w

-- each action of the path leads from a state to the next one
abbrev pub AreStepByStep : Script → List Action → List Process → Type 0
AreStepByStep script path states = (i : ℕ) (x : Action) → slice_get path i ≡ Some x → HasStepAt script states i x

-- a run by the path of a violation, to a state that shows its evidence
abbrev pub HasEnd : Script → Process → Violation → Type 0
HasEnd script t v = (u : Process) × Run script t v.path u × Shows script u v.evidence

-- each end of the path of a violation that shows its evidence is one where it is met
abbrev pub EndsAreMet : Script → Assertion → Violation → Type 0
EndsAreMet script a v = (u : Process) → Shows script u v.evidence → IsEvidence script a.property v.path u v.evidence

-- ---- the states after a trace

-- the terms are exactly the states of t after the trace
abbrev pub AreAfter : Script → Process → List Action → List Process → Type 0
AreAfter script t s states = (u : Process) → Contains states u ↔ IsAfter script t s u

-- for the beginning of the path with i actions, and for none, the states after its trace
pub record AreStatesAlong (script : Script) (t : Process) (path : List Action) (all : List (List Process)) : Type 0 where
  pub long : length all ≡ suc (length path)
  pub each : (i : ℕ) (states : List Process) → slice_get all i ≡ Some states → AreAfter script t (trace (take i path)) states

-- at most n terms, each once
abbrev pub AreFew : ℕ → List Process → Type 0
AreFew n states = AreDistinct states × (length states ≤ n)

-- each of the lists has at most n terms, each once
abbrev pub AreSmall : ℕ → List (List Process) → Type 0
AreSmall n all = (i : ℕ) (states : List Process) → slice_get all i ≡ Some states → AreFew n states

-- after the trace of some beginning of the path there are more than n states
abbrev pub AreMoreAlong : ℕ → Script → Process → List Action → Type 0
AreMoreAlong n script t path = (i : ℕ) × AreMoreThan ◌≡◌ n (IsAfter script t (trace (take i path)))
