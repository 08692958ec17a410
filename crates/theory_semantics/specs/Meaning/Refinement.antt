-- Refinement (FDR manual): what the implementation does, the specification does.
use Rattle.std.specs.Prelude.{List}
use Rattle.theory_syntax.specs.Value.{Action}
use Rattle.theory_syntax.specs.Process.{Process, Model, Traces, Failures, Script}
use Rattle.theory_semantics.specs.Meaning.Runs.{IsTrace}
use Rattle.theory_semantics.specs.Meaning.Offers.{Refusal, IsFailure}

-- `S [T= I`: each trace of I is one of S
abbrev pub TracesRefinement : Script → Process → Process → Type 0
TracesRefinement script spec impl = (s : List Action) → IsTrace script impl s → IsTrace script spec s

-- `S [F= I`: that, and each failure of I is one of S
pub record FailuresRefinement (script : Script) (spec impl : Process) : Type 0 where
  pub traces : TracesRefinement script spec impl
  pub failures : (s : List Action) (refusal : Refusal) → IsFailure script impl s refusal → IsFailure script spec s refusal

abbrev pub Refines : Script → Model → Process → Process → Type 0
Refines script Traces spec impl = TracesRefinement script spec impl
Refines script Failures spec impl = FailuresRefinement script spec impl
