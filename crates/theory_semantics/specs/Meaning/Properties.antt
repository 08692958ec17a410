-- What an assertion asks of its implementation.
use Rattle.std.specs.Prelude.{List}
use Rattle.theory_syntax.specs.Value.{Action}
use Rattle.theory_syntax.specs.Process.{Process, Property, RefinementOf, DeadlockFree, DivergenceFree, Assertion, Script}
use Rattle.theory_semantics.specs.Meaning.Runs.{Run}
use Rattle.theory_semantics.specs.Meaning.Refinement.{Refines}
use Rattle.theory_semantics.specs.Meaning.Divergence.{Diverges, IsDeadlocked}

-- no term that a run of t leads to is deadlocked
abbrev pub IsDeadlockFree : Script → Process → Type 0
IsDeadlockFree script t = (path : List Action) (u : Process) → Run script t path u → ¬ IsDeadlocked script u

-- none diverges
abbrev pub IsDivergenceFree : Script → Process → Type 0
IsDivergenceFree script t = (path : List Action) (u : Process) → Run script t path u → ¬ Diverges script u

abbrev pub HasProperty : Script → Property → Process → Type 0
HasProperty script (RefinementOf model spec) impl = Refines script model spec impl
HasProperty script DeadlockFree impl = IsDeadlockFree script impl
HasProperty script DivergenceFree impl = IsDivergenceFree script impl

-- what an assertion asks, but for its `not`
abbrev pub HoldsPlainly : Script → Assertion → Type 0
HoldsPlainly script a = HasProperty script a.property a.implementation
