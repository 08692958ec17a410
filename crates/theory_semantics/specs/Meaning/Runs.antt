-- Runs, traces, and the states after a trace (Roscoe).
use Rattle.std.specs.Prelude.{◌≡◌, List, [], ◌∷◌, Option, Some, None, ⊤}
use Rattle.theory_syntax.specs.Value.{Action, Tau, Tick, Ev}
use Rattle.theory_syntax.specs.Process.{Process, Script}
use Rattle.theory_semantics.specs.Meaning.Transitions.{IsNotStuck, Step}

-- the path leads from t to u, one step after the other
abbrev pub Run : Script → Process → List Action → Process → Type 0
Run script t [] u = t ≡ u
Run script t (x ∷ path) u = (mid : Process) × Step script t x mid × Run script mid path u

-- a path without its taus
abbrev pub trace : List Action → List Action
trace [] = []
trace (Tau ∷ path) = trace path
trace (Tick ∷ path) = Tick ∷ trace path
trace (Ev e ∷ path) = Ev e ∷ trace path

-- u is a state of t after the trace s
abbrev pub IsAfter : Script → Process → List Action → Process → Type 0
IsAfter script t s u = (path : List Action) × Run script t path u × (trace path ≡ s)

-- s is a trace of t
abbrev pub IsTrace : Script → Process → List Action → Type 0
IsTrace script t s = (u : Process) × IsAfter script t s u

-- s is a trace of the specification; without one, any list of actions will do
abbrev pub IsKnown : Script → Option Process → List Action → Type 0
IsKnown script (Some spec) s = IsTrace script spec s
IsKnown script None s = ⊤

-- a term that a run of t leads to has the property
abbrev pub SomeReachable : Script → Process → (Process → Type 0) → Type 0
SomeReachable script t P = (path : List Action) × (u : Process) × Run script t path u × P u

-- no term that a run of t leads to is stuck
abbrev pub NoneStuck : Script → Process → Type 0
NoneStuck script t = (path : List Action) (u : Process) → Run script t path u → IsNotStuck script u
